use Rattle.std.proofs.Common.{take}
use Rattle.infer_state.specs.Names.{in_bindings}
use Rattle.infer_scopes.specs.Scopes.{standing, Enters}
use Rattle.infer_scopes.proofs.scopes.Scopes.enter_bindings.Given as goal

abbrev pub invariant-bindings : goal.invariant-bindings
invariant-bindings l = Enters (in_bindings (standing l.fn.self.cells l.scope).context (take l.binding-index l.bindings)) (standing l.fn.self.cells l.scope) l.fn.self l.self
