use Rattle.sml_fixity.proofs.ScopeLemmas.{keeps_room, keeps_less}
use Rattle.sml_fixity.proofs.scope.Scope.withdraw.Goals as goal

pub set-requires : goal.set-requires
set-requires c = keeps_room _ _ _ _ _ c.self.invariant c.in-Some.ensures.items

pub invariant_of-self : goal.invariant_of-self
invariant_of-self c = keeps_less _ _ _ _ _ _ _ _ c.self.invariant c.in-Some.ensures.items c.in-Some-pop.ensures.items c.set.ensures
