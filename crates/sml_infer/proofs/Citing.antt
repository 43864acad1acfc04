-- What stands at the front of the written types.
use native.Mathlib.Omega.{arith}
use Rattle.std.proofs.Common.{◌≡◌, ◌<◌, ◌+◌, ℕ, zero, suc, Bool, true, false, cond, Some, List, [], ◌∷◌, length, refl, sym, ap, ◌∙◌, ltb-true}
use Rattle.std.specs.Prelude.{slice_get}
use Rattle.std.specs.List.{prefix_len}
use Rattle.sml_tree.specs.declared.bare.Bare.{Bare}
use Rattle.sml_tree.specs.declared.bare.TypeExp.{TypeExp}
use Rattle.sml_tree.specs.declared.bare.TypeExp.TheVariants as exp
use Rattle.infer_state.specs.declared.declared.Declared.{Declared}
use Rattle.sml_infer.specs.Cited.{cites_below}
use Rattle.sml_infer.specs.Going.{CitesBelow}

front_passes : {A : Type 0} (test : A → Bool) (xs : List A) (i : ℕ) (x : A) → i < prefix_len test xs → slice_get xs i ≡ Some x → test x ≡ true
front_passes test [] i x l e = cc
front_passes {A} test (y ∷ xs) i x l e = by (test y) refl i l e (front_passes test xs)
  where
    by : (b : Bool) → test y ≡ b → (i : ℕ) → i < cond b (1 + prefix_len test xs) 0 → slice_get (y ∷ xs) i ≡ Some x → ((j : ℕ) (z : A) → j < prefix_len test xs → slice_get xs j ≡ Some z → test z ≡ true) → test x ≡ true
    by false q i l e f = absurd (omega (arith, l))
    by true q zero l e f = let same : y ≡ x = cc in ap test (sym same) ∙ q
    by true q (suc i) l e f = f i x (omega (arith, l)) e

pub front_cites : (p : Bare) (d : Declared) (count : ℕ) (types : List TypeExp) (limit : ℕ) → count ≡ length d.abbreviations → types ≡ p.types → limit ≡ prefix_len (λ e. cites_below count e) types → CitesBelow p d limit
front_cites p d count types limit few same is i k args l e =
    let stands : slice_get types i ≡ Some (exp.Abbreviation k args) = ap (λ (ts : List TypeExp). slice_get ts i) same ∙ e in
    let in_front : i < prefix_len (λ e. cites_below count e) types = omega (arith, l, is) in
    let below = ltb-true k count (front_passes (λ e. cites_below count e) types i (exp.Abbreviation k args) in_front stands) in
    omega (arith, below, few)
