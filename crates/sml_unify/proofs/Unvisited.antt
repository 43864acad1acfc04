-- How much of the forms a walk has not come to: a measure that a visit makes smaller by one more than the parts of its form.
use Rattle.std.proofs.Common.{◌≡◌, ℕ, zero, suc, ◌+◌, ◌≤◌, Bool, true, false, List, [], ◌∷◌, length, Some, refl, ap, arith}
use Rattle.std.specs.Prelude.{slice_get, cond}
use Rattle.sml_types.specs.declared.types.TyForm.{TyForm}
use Rattle.sml_types.specs.Forms.{parts_of}

abbrev pub unvisited : (ℕ → Bool) → List TyForm → ℕ
unvisited seen [] = 0
unvisited seen (f ∷ forms) = cond (seen 0) 0 (suc (length (parts_of f))) + unvisited (λ i. seen (suc i)) forms

cost_mono : (a b : Bool) (n : ℕ) → (a ≡ true → b ≡ true) → cond b 0 n ≤ cond a 0 n
cost_mono true true n h = omega arith
cost_mono true false n h = let w = h refl in cc
cost_mono false true n h = omega arith
cost_mono false false n h = omega arith

pub unvisited_mono : (seen after : ℕ → Bool) (forms : List TyForm) → ((i : ℕ) → seen i ≡ true → after i ≡ true) → unvisited after forms ≤ unvisited seen forms
unvisited_mono seen after [] h = omega arith
unvisited_mono seen after (f ∷ forms) h =
    let a = cost_mono (seen 0) (after 0) (suc (length (parts_of f))) (h 0) in
    let b = unvisited_mono (λ i. seen (suc i)) (λ i. after (suc i)) forms (λ i. h (suc i)) in
    omega arith

-- the form of a number is visited
pub unvisited_falls : (seen after : ℕ → Bool) (forms : List TyForm) (k : ℕ) (f : TyForm) → slice_get forms k ≡ Some f → seen k ≡ false → after k ≡ true → ((i : ℕ) → seen i ≡ true → after i ≡ true) → unvisited after forms + suc (length (parts_of f)) ≤ unvisited seen forms
unvisited_falls seen after [] k f q n y h = cc
unvisited_falls seen after (g ∷ forms) zero f q n y h =
    let same : g ≡ f = cc in
    let c = ap (λ (x : TyForm). length (parts_of x)) same in
    let a = ap (λ b. cond b 0 (suc (length (parts_of g)))) n in
    let d = ap (λ b. cond b 0 (suc (length (parts_of g)))) y in
    let b = unvisited_mono (λ i. seen (suc i)) (λ i. after (suc i)) forms (λ i. h (suc i)) in
    omega arith
unvisited_falls seen after (g ∷ forms) (suc k) f q n y h =
    let a = cost_mono (seen 0) (after 0) (suc (length (parts_of g))) (h 0) in
    let b = unvisited_falls (λ i. seen (suc i)) (λ i. after (suc i)) forms k f q n y (λ i. h (suc i)) in
    omega arith
