-- Lists that grow at their ends, and forms that go on.
use Rattle.std.proofs.Common.{◌≡◌, ℕ, zero, suc, ◌<◌, List, [], ◌∷◌, ◌++◌, length, Some, refl, sym, ap, ◌∙◌, arith, subst, length-append, ◌⊎◌, inl, inr}
use Rattle.std.specs.Prelude.{slice_get}
use Rattle.std.specs.List.{AllByRecursion}
use Rattle.sml_types.specs.declared.types.TyForm.{TyForm}
use Rattle.sml_types.proofs.FormFacts.{tree_more}
use Rattle.sml_unify.specs.Steps.{IsLonger}

pub some_eq : {A : Type 0} (x y : A) → Some x ≡ Some y → x ≡ y
some_eq x y e = cc

pub get_more : {A : Type 0} (xs ys : List A) (i : ℕ) (x : A) → slice_get xs i ≡ Some x → slice_get (xs ++ ys) i ≡ Some x
get_more [] ys i x e = cc
get_more (z ∷ xs) ys zero x e = e
get_more (z ∷ xs) ys (suc i) x e = get_more xs ys i x e

pub get_last : {A : Type 0} (xs : List A) (y : A) → slice_get (xs ++ y ∷ []) (length xs) ≡ Some y
get_last [] y = refl
get_last (x ∷ xs) y = get_last xs y

-- an item of a list with one more is an old one, or the last
pub get_either : {A : Type 0} (xs : List A) (y : A) (i : ℕ) (x : A) → slice_get (xs ++ y ∷ []) i ≡ Some x → (slice_get xs i ≡ Some x) ⊎ ((i ≡ length xs) × (x ≡ y))
get_either [] y zero x e = inr (refl, sym (some_eq y x e))
get_either [] y (suc i) x e = cc
get_either (z ∷ xs) y zero x e = inl e
get_either (z ∷ xs) y (suc i) x e = later (get_either xs y i x e)
  where
    later : (slice_get xs i ≡ Some x) ⊎ ((i ≡ length xs) × (x ≡ y)) → (slice_get xs i ≡ Some x) ⊎ ((suc i ≡ suc (length xs)) × (x ≡ y))
    later (inl q) = inl q
    later (inr q) = inr (ap suc q.0, q.1)

pub within : {A : Type 0} (xs : List A) (i : ℕ) (x : A) → slice_get xs i ≡ Some x → i < length xs
within [] i x e = cc
within (z ∷ xs) zero x e = omega arith
within (z ∷ xs) (suc i) x e = let l = within xs i x e in omega arith

pub at_all : {A : Type 0} (P : A → Type 0) (xs : List A) (i : ℕ) (x : A) → AllByRecursion P xs → slice_get xs i ≡ Some x → P x
at_all P [] i x h e = cc
at_all P (z ∷ xs) zero x h e = subst P (some_eq z x e) h.0
at_all P (z ∷ xs) (suc i) x h e = at_all P xs i x h.1 e

pub all_mono : {A : Type 0} (P Q : A → Type 0) (xs : List A) → ((x : A) → P x → Q x) → AllByRecursion P xs → AllByRecursion Q xs
all_mono P Q [] f h = tt
all_mono P Q (x ∷ xs) f h = (f x h.0, all_mono P Q xs f h.1)

pub all_both : {A : Type 0} (P : A → Type 0) (xs ys : List A) → AllByRecursion P xs → AllByRecursion P ys → AllByRecursion P (xs ++ ys)
all_both P [] ys h k = k
all_both P (x ∷ xs) ys h k = (h.0, all_both P xs ys h.1 k)

pub all_front : {A : Type 0} (P : A → Type 0) (xs ys : List A) → AllByRecursion P (xs ++ ys) → AllByRecursion P xs
all_front P [] ys h = tt
all_front P (x ∷ xs) ys h = (h.0, all_front P xs ys h.1)

pub all_last : {A : Type 0} (P : A → Type 0) (xs : List A) (y : A) → AllByRecursion P (xs ++ y ∷ []) → P y
all_last P [] y h = h.0
all_last P (x ∷ xs) y h = all_last P xs y h.1

-- ---- Forms that go on

pub longer_same : (a : List TyForm) → IsLonger a a
longer_same a = record { count = omega arith; keeps = λ i f q. q; trees = λ i l. refl }

pub longer_then : (a b c : List TyForm) → IsLonger a b → IsLonger b c → IsLonger a c
longer_then a b c l m =
    record {
      count = let x = l.count in let y = m.count in omega arith;
      keeps = λ i f e. m.keeps i f (l.keeps i f e);
      trees = λ i e. m.trees i (let x = l.count in omega arith) ∙ l.trees i e;
    }

pub longer_by_one : (forms : List TyForm) (f : TyForm) → IsLonger forms (forms ++ f ∷ [])
longer_by_one forms f =
    record {
      count = omega (arith, length-append forms (f ∷ []));
      keeps = λ i g e. get_more forms (f ∷ []) i g e;
      trees = λ i l. tree_more forms f i l;
    }
