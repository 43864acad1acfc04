-- Code that stands at a place.
use Rattle.std.proofs.Common.{◌≡◌, ℕ, suc, ◌+◌, ◌^◌, ◌<◌, ◌≤◌, List, [], ◌∷◌, ◌++◌, length, Some, refl, sym, subst, arith, append_assoc, length-append, add-zero}
use Rattle.std.specs.Prelude.{slice_get}
use Rattle.std.proofs.lemmas.Option.{slice_get_within}
use Rattle.rv_isa.specs.declared.word.Ins.{Ins}
use Rattle.rv_acts.specs.Fine.{IsKnown}
use Rattle.rv_pieces.specs.Stand.{Stands}

pub zero_known : (x : ℕ) → x ≡ 0 → IsKnown x
zero_known x e = omega arith

pub known_of : (x y : ℕ) → x ≡ y → y < 2 ^ 64 → IsKnown x
known_of x y e l = omega arith

pub stands_left : (code : List Ins) (n : ℕ) (xs ys : List Ins) → Stands code n (xs ++ ys) → Stands code n xs
stands_left code n [] ys h = tt
stands_left code n (x ∷ xs) ys h = (h.0, stands_left code (suc n) xs ys h.1)

pub stands_right : (code : List Ins) (n : ℕ) (xs ys : List Ins) → Stands code n (xs ++ ys) → Stands code (n + length xs) ys
stands_right code n [] ys h = subst (λ k. Stands code k ys) (sym (add-zero n)) h
stands_right code n (x ∷ xs) ys h =
    let e : suc n + length xs ≡ n + length (x ∷ xs) = omega arith in
    subst (λ k. Stands code k ys) e (stands_right code (suc n) xs ys h.1)

pub stands_at : (code : List Ins) (n m : ℕ) (xs : List Ins) → n ≡ m → Stands code n xs → Stands code m xs
stands_at code n m xs e h = subst (λ k. Stands code k xs) e h

pub stands_within : (code : List Ins) (n : ℕ) (xs : List Ins) → 0 < length xs → Stands code n xs → n + length xs ≤ length code
stands_within code n [] l h = absurd (omega arith)
stands_within code n (x ∷ []) l h = let w = slice_get_within code n x h.0 in omega arith
stands_within code n (x ∷ y ∷ xs) l h = let w = stands_within code (suc n) (y ∷ xs) (omega arith) h.1 in omega arith

-- a list stands in itself
pub stands_in : (pre xs : List Ins) → Stands (pre ++ xs) (length pre) xs
stands_in pre [] = tt
stands_in pre (x ∷ xs) =
    (first pre x xs, subst (λ l. Stands l (suc (length pre)) xs) (append_assoc pre (x ∷ []) xs) (stands_at _ _ _ xs (omega (arith, length-append pre (x ∷ []))) (stands_in (pre ++ x ∷ []) xs)))
  where
    first : (pre : List Ins) (x : Ins) (xs : List Ins) → slice_get (pre ++ x ∷ xs) (length pre) ≡ Some x
    first [] x xs = refl
    first (y ∷ pre) x xs = first pre x xs
