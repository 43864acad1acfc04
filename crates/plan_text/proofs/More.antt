-- One line more.
use Rattle.std.proofs.Common.{◌≡◌, ℕ, zero, suc, ◌+◌, ◌<◌, ◌≤◌, List, [], ◌∷◌, ◌++◌, length, take, refl, sym, ap, ◌∙◌, subst, arith, append_assoc}
use Rattle.std.specs.Prelude.{slice_index_or}
use Rattle.std.proofs.Math.Seq.{take-suc}
use Rattle.close_laws.specs.Text.{lines_from}

up : (i : ℕ) (P : ℕ → Type 0) → P (suc i) → P (i + 1)
up i P h = let e : suc i ≡ i + 1 = omega arith in subst P e h

append_none : (xs : List ℕ) → xs ++ [] ≡ xs
append_none [] = refl
append_none (x ∷ xs) = ap (λ ys. x ∷ ys) (append_none xs)

length_take : {X : Type 0} (xs : List X) (i : ℕ) → i ≤ length xs → length (take i xs) ≡ i
length_take xs zero h = refl
length_take [] (suc i) h = absurd (omega arith)
length_take (x ∷ xs) (suc i) h = ap suc (length_take xs i (omega arith))

module _ {X : Type 0} (line : ℕ → X → List ℕ) where
  lines_end : (n : ℕ) (xs : List X) (x : X) → lines_from line n (xs ++ x ∷ []) ≡ lines_from line n xs ++ line (n + length xs) x
  lines_end n [] x = append_none (line n x) ∙ ap (λ m. line m x) (omega arith)
  lines_end n (y ∷ xs) x =
      ap (λ t. line n y ++ t) (lines_end (suc n) xs x ∙ ap (λ m. lines_from line (suc n) xs ++ line m x) (omega arith))
      ∙ sym (append_assoc (line n y) (lines_from line (suc n) xs) (line (n + suc (length xs)) x))

  -- a line is put behind those before it
  pub line_more : (xs : List X) (i : ℕ) (d x : X) (old new text : List ℕ) → i < length xs → x ≡ slice_index_or xs i d → old ≡ lines_from line 0 (take i xs) → text ≡ line i x → new ≡ old ++ text → new ≡ lines_from line 0 (take (i + 1) xs)
  line_more xs i d x old new text lt here o t n =
      let taken = length_take xs i (omega arith) in
      let place : i ≡ 0 + length (take i xs) = omega (arith, taken) in
      up i (λ k. new ≡ lines_from line 0 (take k xs))
      (n
      ∙ ap (λ s. s ++ text) o
      ∙ ap (λ s. lines_from line 0 (take i xs) ++ s) (t ∙ ap (line i) here ∙ ap (λ m. line m (slice_index_or xs i d)) place)
      ∙ sym (lines_end 0 (take i xs) (slice_index_or xs i d))
      ∙ sym (ap (lines_from line 0) (take-suc xs i d lt)))
