use Rattle.infer_parts.specs.Held.{AreHeld, among, in_any}
use Rattle.infer_parts.proofs.held.covers.Given as goal

abbrev pub invariant-forms : goal.invariant-forms
invariant-forms l = AreHeld (among l.vars) in_any l.forms l.first l.at l.table.items
