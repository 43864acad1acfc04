-- A turn of a walk: the last body is taken off, and those that stand in it are put on.
use Rattle.std.proofs.Common.{◌≡◌, ℕ, ◌+◌, ◌<◌, Bool, true, false, List, [], ◌∷◌, ◌++◌, refl, sym, ap, ◌∙◌, arith}
use Rattle.std.specs.Prelude.{◌||◌, slice_get}
use Rattle.std.specs.List.{list_any}
use Rattle.sml_tree.specs.Sets.{has, union}
use Rattle.sml_tree.proofs.Members.{has-union}
use Rattle.cps_ir.specs.declared.body.Body.{Body}
use Rattle.cps_ir.specs.Program.{code_at}
use Rattle.cps_free.specs.Same.{AreSame}
use Rattle.cps_free.proofs.Unfold.{AreNumbered}
use Rattle.close_laws.specs.Layouts.{values}
use Rattle.close_laws.specs.Close.{compares}
use Rattle.used_values.specs.Own.{own_at, compares_at, parts_at, bodies_in}
use Rattle.used_values.proofs.Trees.{any_append, weight, weight_append, values_unfold, compares_unfold, count_unfold}

any_turn : (P : ℕ → Bool) (own : Bool) (parts work : List ℕ) (i : ℕ) (before after all : Bool) → P i ≡ (own || list_any P parts) → (list_any P (work ++ i ∷ []) || before) ≡ all → after ≡ (own || before) → (list_any P (work ++ parts) || after) ≡ all
any_turn P own parts work i before after all u e f =
    ap (λ b. b || after) (any_append P work parts) ∙ ap (λ b. (list_any P work || list_any P parts) || b) f
    ∙ swap (list_any P work) (list_any P parts) own before
    ∙ ap (λ b. (list_any P work || (b || false)) || before) (sym u)
    ∙ ap (λ b. b || before) (sym (any_append P work (i ∷ []))) ∙ e
  where
    swap : (w p o b : Bool) → ((w || p) || (o || b)) ≡ ((w || ((o || p) || false)) || b)
    swap true p o b = refl
    swap false true true b = refl
    swap false true false b = refl
    swap false false true b = refl
    swap false false false b = refl

module _ (bodies : List Body) (numbered : AreNumbered bodies) where
  pub values_turn : (work now : List ℕ) (i : ℕ) (old new : List ℕ) (all : ℕ → Bool) → ((z : ℕ) → (list_any (λ c. has (values (code_at bodies c)) z) (work ++ i ∷ []) || has old z) ≡ all z) → AreSame new (union (own_at (slice_get bodies i)) old) → now ≡ work ++ parts_at (slice_get bodies i) → (z : ℕ) → (list_any (λ c. has (values (code_at bodies c)) z) now || has new z) ≡ all z
  values_turn work now i old new all e s n z =
      ap (λ is. list_any (λ c. has (values (code_at bodies c)) z) is || has new z) n
      ∙ any_turn (λ c. has (values (code_at bodies c)) z) (has (own_at (slice_get bodies i)) z) (parts_at (slice_get bodies i)) work i (has old z) (has new z) (all z) (values_unfold bodies numbered i z) (e z) (s z ∙ has-union (own_at (slice_get bodies i)) old z)

  pub compares_turn : (work now : List ℕ) (i : ℕ) (old here all : Bool) → (list_any (λ c. compares (code_at bodies c)) (work ++ i ∷ []) || old) ≡ all → here ≡ compares_at (slice_get bodies i) → now ≡ work ++ parts_at (slice_get bodies i) → (list_any (λ c. compares (code_at bodies c)) now || (old || here)) ≡ all
  compares_turn work now i old here all e h n =
      ap (λ is. list_any (λ c. compares (code_at bodies c)) is || (old || here)) n
      ∙ any_turn (λ c. compares (code_at bodies c)) (compares_at (slice_get bodies i)) (parts_at (slice_get bodies i)) work i old (old || here) all (compares_unfold bodies numbered i) e (turned old here ∙ ap (λ b. b || old) h)
    where
      turned : (a b : Bool) → (a || b) ≡ (b || a)
      turned true true = refl
      turned true false = refl
      turned false true = refl
      turned false false = refl

  pub fewer : (work now : List ℕ) (i : ℕ) → now ≡ work ++ parts_at (slice_get bodies i) → weight (λ c. bodies_in (code_at bodies c)) now < weight (λ c. bodies_in (code_at bodies c)) (work ++ i ∷ [])
  fewer work now i n =
      let f : ℕ → ℕ = (λ c. bodies_in (code_at bodies c)) in
      let a : weight f now ≡ weight f work + weight f (parts_at (slice_get bodies i)) = ap (weight f) n ∙ weight_append f work (parts_at (slice_get bodies i)) in
      let b = weight_append f work (i ∷ []) in
      omega (arith, a, b, count_unfold bodies numbered i)

pub begun : (P : ℕ → Bool) (work : List ℕ) (i : ℕ) → work ≡ i ∷ [] → (list_any P work || false) ≡ P i
begun P work i e = ap (λ is. list_any P is || false) e ∙ by (P i)
  where
    by : (b : Bool) → ((b || false) || false) ≡ b
    by true = refl
    by false = refl
