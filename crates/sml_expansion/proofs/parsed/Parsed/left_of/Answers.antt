use Rattle.std.proofs.Common.{rules, ◌≡◌, ◌-◌, ◌≤◌, get_or, arith}
use Rattle.sml_expansion.specs.Starts.{starts_of}
use Rattle.sml_expansion.proofs.StartLemmas.{starts_bounded}
use Rattle.sml_expansion.proofs.parsed.Parsed.left_of.Goals as goal

pub returns-clause-behind : goal.returns-clause-behind
returns-clause-behind c =
    let bound : get_or (starts_of c.args.self.now.nodes) c.args.at 0 ≤ c.args.at = starts_bounded c.args.self.now.nodes c.args.at in
    let is : c.saturating_sub.result ≡ get_or (starts_of c.args.self.now.nodes) c.args.at 0 - 1 = search rules in
    omega arith
