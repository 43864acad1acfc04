use Rattle.std.proofs.Common.{◌<◌, ap, arith}
use Rattle.sml_expansion.specs.Sources.{Source}
use Rattle.sml_expansion.proofs.Shapes.{not_first_at}
use Rattle.sml_expansion.proofs.parsed.Parsed.two.Goals as goal

pub returns-clause-below : goal.returns-clause-below
returns-clause-below c e =
    let some : 0 < c.args.at = not_first_at c.args.self.now _ _ c.args.at 1 (ap (λ (s : Source). s.nodes) c.self.view_is) c.self.inside.tree.now.forest e in
    (omega arith, omega arith)
