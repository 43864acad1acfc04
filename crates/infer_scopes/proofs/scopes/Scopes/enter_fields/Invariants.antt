use Rattle.std.proofs.Common.{take}
use Rattle.std.specs.Prelude.{map}
use Rattle.infer_state.specs.Names.{inside}
use Rattle.infer_scopes.specs.Scopes.{standing, Enters}
use Rattle.infer_scopes.proofs.scopes.Scopes.enter_fields.Given as goal

abbrev pub invariant-fields : goal.invariant-fields
invariant-fields l = Enters (map (λ f. inside (standing l.fn.self.cells l.scope).context f.node) (take l.field-index l.fields)) (standing l.fn.self.cells l.scope) l.fn.self l.self
