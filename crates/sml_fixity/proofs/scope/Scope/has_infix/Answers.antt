use Rattle.std.proofs.Common.{◌∙◌}
use Rattle.sml_fixity.proofs.ScopeLemmas.{infix_counted}
use Rattle.sml_fixity.proofs.scope.Scope.has_infix.Goals as goal

pub returns : goal.returns
returns c = rw (← c.self.view_is) (c.has_infix.ensures ∙ infix_counted _ _ _ c.self.invariant)
