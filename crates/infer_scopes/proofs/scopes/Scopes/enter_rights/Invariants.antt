use Rattle.std.proofs.Common.{take}
use Rattle.std.specs.Prelude.{map}
use Rattle.infer_state.specs.Names.{inside}
use Rattle.infer_scopes.specs.Scopes.{standing, Enters}
use Rattle.infer_scopes.proofs.scopes.Scopes.enter_rights.Given as goal

abbrev pub invariant-bindings : goal.invariant-bindings
invariant-bindings l = Enters (map (λ b. inside (standing l.fn.self.cells l.scope).context b.right) (take l.binding-index l.bindings)) (standing l.fn.self.cells l.scope) l.fn.self l.self
