-- What stands at a place of a list.
use Rattle.std.proofs.Common.{◌≡◌, ℕ, zero, suc, ◌<◌, Bool, true, false, List, [], ◌∷◌, length, map, Some, refl, sym, ap, subst, arith}
use Rattle.std.proofs.lemmas.Bool.{eqb-true}
use Rattle.std.specs.Prelude.{slice_get, nat_eq, ◌||◌}
use Rattle.std.specs.List.{AllByRecursion}
use Rattle.sml_tree.specs.Sets.{has}

pub all_at : {A : Type 0} (P : A → Type 0) (xs : List A) (i : ℕ) (x : A) → AllByRecursion P xs → slice_get xs i ≡ Some x → P x
all_at P [] i x h e = cc
all_at P (y ∷ xs) zero x h e = let same : y ≡ x = cc in subst P same h.0
all_at P (y ∷ xs) (suc i) x h e = all_at P xs i x h.1 e

pub get_lt : {A : Type 0} (xs : List A) (i : ℕ) (x : A) → slice_get xs i ≡ Some x → i < length xs
get_lt [] i x e = cc
get_lt (y ∷ xs) zero x e = omega arith
get_lt (y ∷ xs) (suc i) x e = let h = get_lt xs i x e in omega arith

pub get_map : {A B : Type 0} (f : A → B) (xs : List A) (i : ℕ) (x : A) → slice_get xs i ≡ Some x → slice_get (map f xs) i ≡ Some (f x)
get_map f [] i x e = cc
get_map f (y ∷ xs) zero x e = let same : y ≡ x = cc in ap (λ z. Some (f z)) same
get_map f (y ∷ xs) (suc i) x e = get_map f xs i x e

pub some_eq : {A : Type 0} (x y : A) → Some x ≡ Some y → x ≡ y
some_eq x y e = cc

-- what holds of each number of a list
pub at_name : (xs : List ℕ) (P : ℕ → Type 0) → AllByRecursion P xs → (x : ℕ) → has xs x ≡ true → P x
at_name [] P h x m = cc
at_name (y ∷ xs) P h x m = go (nat_eq x y) refl m (at_name xs P h.1 x)
  where
    go : (q : Bool) → nat_eq x y ≡ q → (q || has xs x) ≡ true → (has xs x ≡ true → P x) → P x
    go true e m rest = subst P (sym (eqb-true x y e)) h.0
    go false e m rest = rest m
