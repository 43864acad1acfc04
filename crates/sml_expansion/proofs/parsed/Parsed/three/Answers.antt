use Rattle.std.proofs.Common.{rules, ◌≡◌, ◌<◌, ◌-◌, ap, arith}
use Rattle.sml_expansion.specs.Sources.{Source}
use Rattle.sml_expansion.proofs.Shapes.{not_first_at, three_parts}
use Rattle.sml_expansion.proofs.parsed.Parsed.three.Goals as goal

pub returns-clause-below : goal.returns-clause-below
returns-clause-below c e =
    let some : 0 < c.args.at = not_first_at c.args.self.now _ _ c.args.at 2 (ap (λ (s : Source). s.nodes) c.self.view_is) c.self.inside.tree.now.forest e in
    (omega arith, omega arith, omega arith)

pub returns-clause-parts : goal.returns-clause-parts
returns-clause-parts c n p a b d h =
    let last : c.saturating_sub-third.result ≡ c.args.at - 1 = search rules in
    three_parts c.args.self.now c.args.at n p a b d _ _ _ last c.left_of-second.ensures.is c.left_of.ensures.is h
