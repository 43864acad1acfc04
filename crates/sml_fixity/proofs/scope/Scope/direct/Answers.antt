use Rattle.std.proofs.Common.{rules}
use Rattle.sml_fixity.proofs.ScopeLemmas.{keeps_more}
use Rattle.sml_fixity.proofs.scope.Scope.direct.Goals as goal

pub invariant_of-self-2 : goal.invariant_of-self-2
invariant_of-self-2 c = keeps_more _ _ _ _ _ _ _ _ c.self.invariant c.in_ok-reach.ensures.same c.in_ok-reach.ensures.room c.in-Ok.ensures.items c.set.ensures (search rules)
