-- Items that are put piece by piece.
use Rattle.std.proofs.Common.{◌≡◌, ℕ, suc, ◌+◌, ◌-◌, ◌<◌, ◌≤◌, List, [], ◌∷◌, ◌++◌, length, drop, refl, sym, ap, ◌∙◌, arith}
use Rattle.std.specs.Prelude.{slice_index_or}
use Rattle.std.proofs.Math.Seq.{drop-cons}
use Rattle.rv_asm.specs.declared.item.Item.{Item}

pub append_assoc : (xs ys zs : List Item) → (xs ++ ys) ++ zs ≡ xs ++ (ys ++ zs)
append_assoc [] ys zs = refl
append_assoc (x ∷ xs) ys zs = ap (λ ws. x ∷ ws) (append_assoc xs ys zs)

pub append_none : (xs : List Item) → xs ++ [] ≡ xs
append_none [] = refl
append_none (x ∷ xs) = ap (λ ws. x ∷ ws) (append_none xs)

front : {X : Type 0} (xs : List X) (i : ℕ) (d x : X) → i < length xs → x ≡ slice_index_or xs i d → drop i xs ≡ x ∷ drop (i + 1) xs
front xs i d x lt e =
    let up : suc i ≡ i + 1 = omega arith in
    drop-cons xs i d lt ∙ ap (λ y. y ∷ drop (suc i) xs) (sym e) ∙ ap (λ j. x ∷ drop j xs) up

-- What a list makes, from a number on: a part for each of its items, and the number goes on.
module _ {X : Type 0} (part : ℕ → X → List Item) (goes : ℕ → X → ℕ) (whole : ℕ → List X → List Item) (is : (n : ℕ) (x : X) (xs : List X) → whole n (x ∷ xs) ≡ part n x ++ whole (goes n x) xs) where
  pub one_more : (xs : List X) (i : ℕ) (d x : X) (n m : ℕ) (old new all : List Item) → i < length xs → x ≡ slice_index_or xs i d → m ≡ goes n x → new ≡ old ++ part n x → old ++ whole n (drop i xs) ≡ all → new ++ whole m (drop (i + 1) xs) ≡ all
  one_more xs i d x n m old new all lt e g p h =
      let rest = drop (i + 1) xs in
      ap (λ ys. ys ++ whole m rest) p
      ∙ append_assoc old (part n x) (whole m rest)
      ∙ ap (λ k. old ++ (part n x ++ whole k rest)) g
      ∙ ap (λ ys. old ++ ys) (sym (is n x rest))
      ∙ ap (λ ys. old ++ whole n ys) (sym (front xs i d x lt e))
      ∙ h

-- a sum over a list, counted on from a number
module _ {X : Type 0} (part : X → ℕ) (whole : List X → ℕ) (is : (x : X) (xs : List X) → whole (x ∷ xs) ≡ part x + whole xs) where
  pub sum_more : (xs : List X) (i : ℕ) (d x : X) (n m all : ℕ) → i < length xs → x ≡ slice_index_or xs i d → m ≡ n + part x → n + whole (drop i xs) ≡ all → m + whole (drop (i + 1) xs) ≡ all
  sum_more xs i d x n m all lt e g h =
      let rest = drop (i + 1) xs in
      let here : whole (drop i xs) ≡ part x + whole rest = ap whole (front xs i d x lt e) ∙ is x rest in
      omega (arith, g, h, here)

-- pieces that are put in front, from the last on
pub one_before : (piece : List Item) (n : ℕ) (d : Item) (old new all : List Item) → 0 < n → n ≤ length piece → new ≡ slice_index_or piece (n - 1) d ∷ old → old ≡ drop n piece ++ all → new ≡ drop (n - 1) piece ++ all
one_before piece n d old new all lt le e h =
    let last : n - 1 < length piece = omega (arith, lt, le) in
    let next : suc (n - 1) ≡ n = omega (arith, lt) in
    e
    ∙ ap (λ xs. slice_index_or piece (n - 1) d ∷ xs) (h ∙ ap (λ k. drop k piece ++ all) (sym next))
    ∙ ap (λ xs. xs ++ all) (sym (drop-cons piece (n - 1) d last))
