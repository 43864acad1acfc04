use Rattle.std.proofs.Common.{take}
use Rattle.infer_state.specs.Names.{in_rules}
use Rattle.infer_scopes.specs.Scopes.{standing, Enters}
use Rattle.infer_scopes.proofs.scopes.Scopes.enter_rules.Given as goal

abbrev pub invariant-rules : goal.invariant-rules
invariant-rules l = Enters (in_rules l.bare.nodes (standing l.fn.self.cells l.scope).context (take l.rule-index l.rules)) (standing l.fn.self.cells l.scope) l.fn.self l.self
