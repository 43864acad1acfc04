use Rattle.infer_parts.specs.Held.{AreHeld, any_var, by_names}
use Rattle.infer_parts.proofs.held.admitting.Given as goal

abbrev pub invariant-forms : goal.invariant-forms
invariant-forms l = AreHeld any_var (by_names l.names) l.forms l.first l.at l.table.items
