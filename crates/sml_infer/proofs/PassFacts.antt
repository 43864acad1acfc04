-- What stays from pass to pass.
use Rattle.std.proofs.Common.{◌≡◌, ℕ, Result, refl, subst, ◌∙◌}
use Rattle.sml_tree.specs.declared.bare.Bare.{Bare}
use Rattle.sml_types.specs.Typing.{Typing, IsTypingBelow}
use Rattle.infer_state.specs.declared.declared.Declared.{Declared}
use Rattle.infer_state.specs.declared.failure.Failure.{Failure}
use Rattle.infer_tables.specs.Declare.{IsUntypable}
use Rattle.sml_infer.specs.Going.{Now, Keeps, IsGoing}
use Rattle.sml_infer.proofs.Naming.{longer_same, longer_then}

pub keeps_same : (a : Now) → Keeps a a
keeps_same a = record { longer = longer_same a.unknowns.types; contexts = λ i c e. e; settled = refl; behind = refl }

pub keeps_then : (a b c : Now) → Keeps a b → Keeps b c → Keeps a c
keeps_then a b c h k =
    record {
      longer = longer_then a.unknowns.types b.unknowns.types c.unknowns.types h.longer k.longer;
      contexts = λ i q e. k.contexts i q (h.contexts i q e);
      settled = k.settled ∙ h.settled;
      behind = k.behind ∙ h.behind;
    }

-- the same, by other names of its numbers
pub going_as : (p : Bare) (d : Declared) (a : Now) (count done reached count2 done2 reached2 : ℕ) → count ≡ count2 → done ≡ done2 → reached ≡ reached2 → IsGoing p count d a done done reached → IsGoing p count2 d a done2 done2 reached2
going_as p d a count done reached count2 done2 reached2 e f g h =
    subst (λ (c : ℕ). IsGoing p c d a done2 done2 reached2) e (subst (λ (n : ℕ). IsGoing p count d a n n reached2) f (subst (λ (r : ℕ). IsGoing p count d a done done r) g h))

-- no typing of the nodes below a number is none of those below the same number
pub untypable_as : {A : Type 0} (p : Bare) (count count2 : ℕ) (r : Result A Failure) → count ≡ count2 → IsUntypable r ((t : Typing) → IsTypingBelow p t count → ⊥) → IsUntypable r ((t : Typing) → IsTypingBelow p t count2 → ⊥)
untypable_as {A} p count count2 r e h = subst (λ (c : ℕ). IsUntypable r ((t : Typing) → IsTypingBelow p t c → ⊥)) e h
