-- Where blocks of a group begin, one after another.
use Rattle.std.proofs.Common.{◌≡◌, ℕ, zero, suc, ◌+◌, ◌-◌, ◌<◌, ◌≤◌, List, [], ◌∷◌, length, drop, map, refl, sym, ap, ◌∙◌, subst, arith}
use Rattle.std.specs.Prelude.{slice_index_or}
use Rattle.std.proofs.Math.Seq.{drop-cons}
use Rattle.closure_ir.specs.declared.body.Maker.{Maker}
use Rattle.placed_ir.specs.Arena.{offset_in}
use Rattle.place_laws.specs.Place.{maker_length}

abbrev from : List Maker → ℕ → ℕ
from makers k = offset_in (map maker_length makers) k

step : (m : Maker) (rest : List Maker) (left : ℕ) → 0 < left → from (m ∷ rest) left ≡ suc (maker_length m) + from rest (left - 1)
step m rest zero h = absurd (omega arith)
step m rest (suc k) h = let e : suc k - 1 ≡ k = omega arith in ap (λ j. suc (maker_length m) + from rest j) (sym e)

pub offset_more : (makers : List Maker) (i : ℕ) (d m : Maker) (left total all : ℕ) → i < length makers → m ≡ slice_index_or makers i d → 0 < left → total + from (drop i makers) left ≡ all → (total + suc (maker_length m)) + from (drop (i + 1) makers) (left - 1) ≡ all
offset_more makers i d m left total all lt e pos h =
    let up : suc i ≡ i + 1 = omega arith in
    let front : drop i makers ≡ m ∷ drop (i + 1) makers = drop-cons makers i d lt ∙ ap (λ k. k ∷ drop (suc i) makers) (sym e) ∙ ap (λ j. m ∷ drop j makers) up in
    let one : from (drop i makers) left ≡ suc (maker_length m) + from (drop (i + 1) makers) (left - 1) = ap (λ ms. from ms left) front ∙ step m (drop (i + 1) makers) left pos in
    let g : total + (suc (maker_length m) + from (drop (i + 1) makers) (left - 1)) ≡ all = subst (λ n. total + n ≡ all) one h in
    omega arith

none_left : (ms : List ℕ) → offset_in ms 0 ≡ 0
none_left [] = refl
none_left (n ∷ ms) = refl

pub offset_here : (makers : List Maker) (left total all : ℕ) → left ≡ 0 → total + from makers left ≡ all → total ≡ all
offset_here makers left total all e h =
    let g : from makers left ≡ 0 = ap (from makers) e ∙ none_left (map maker_length makers) in
    let k : total + 0 ≡ all = subst (λ n. total + n ≡ all) g h in
    omega arith

past : (makers : List Maker) (i : ℕ) → length makers ≤ i → drop i makers ≡ []
past [] zero h = refl
past [] (suc i) h = refl
past (m ∷ makers) zero h = absurd (omega arith)
past (m ∷ makers) (suc i) h = past makers i (omega arith)

pub offset_end : (makers : List Maker) (i left total all : ℕ) → length makers ≤ i → total + from (drop i makers) left ≡ all → total ≡ all
offset_end makers i left total all le h =
    let g : from (drop i makers) left ≡ 0 = ap (λ ms. from ms left) (past makers i le) in
    let k : total + 0 ≡ all = subst (λ n. total + n ≡ all) g h in
    omega arith
