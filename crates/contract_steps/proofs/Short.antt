-- Where one of two lists ends, nothing more is put.
use Rattle.std.proofs.Common.{◌≡◌, ℕ, zero, suc, ◌≤◌, List, [], ◌∷◌, length, drop, refl, ap, ◌∙◌, arith}
use Rattle.cps_ir.specs.declared.atom.Atom.{Atom}
use Rattle.contract_steps.specs.Steps.{put_arguments}

none_left : {A : Type 0} (xs : List A) (i : ℕ) → length xs ≤ i → drop i xs ≡ []
none_left [] zero h = refl
none_left [] (suc i) h = refl
none_left (x ∷ xs) zero h = absurd (omega arith)
none_left (x ∷ xs) (suc i) h = none_left xs i (omega arith)

no_atoms : (xs : List ℕ) (places : List Atom) → put_arguments xs [] places ≡ places
no_atoms [] places = refl
no_atoms (x ∷ xs) places = refl

pub arguments_end : (xs : List ℕ) (us : List Atom) (i : ℕ) (places : List Atom) → (length xs ≤ i → put_arguments (drop i xs) (drop i us) places ≡ places) × (length us ≤ i → put_arguments (drop i xs) (drop i us) places ≡ places)
arguments_end xs us i places = (
  (λ h. ap (λ ys. put_arguments ys (drop i us) places) (none_left xs i h)),
  (λ h. ap (λ vs. put_arguments (drop i xs) vs places) (none_left us i h) ∙ no_atoms (drop i xs) places),
)
