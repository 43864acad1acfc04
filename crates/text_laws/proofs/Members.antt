-- What holds of the numbers in a list.
use Rattle.std.proofs.Common.{◌≡◌, ℕ, Bool, true, false, List, [], ◌∷◌, ◌++◌, refl, sym, ap, ◌∙◌, subst}
use Rattle.std.specs.Prelude.{nat_eq, flat_map, filter, ◌||◌}
use Rattle.std.specs.List.{AllByRecursion}
use Rattle.std.proofs.lemmas.Bool.{eqb-true, eq-eqb}
use Rattle.std.proofs.lemmas.List.Folds.{list_any-append}
use Rattle.std.proofs.lemmas.Map.Views.{any-filter_same}
use Rattle.sml_types.specs.Poly.{is_in}
use Rattle.sml_types.proofs.TreeFacts.{either, or_right, and_both}

-- what isn't so
pub never : false ≡ true → ⊥
never e = cc

-- what holds of all holds of each that is in the list
pub of_member : (P : ℕ → Type 0) (xs : List ℕ) (x : ℕ) → AllByRecursion P xs → is_in xs x ≡ true → P x
of_member P [] x h e = absurd (never e)
of_member P (y ∷ xs) x h e =
    either (nat_eq x y) (is_in xs x) (P x) e (λ q. subst P (sym (eqb-true x y q)) h.0) (λ q. of_member P xs x h.1 q)

-- and the other way round
pub of_members : (P : ℕ → Type 0) (xs : List ℕ) → ((x : ℕ) → is_in xs x ≡ true → P x) → AllByRecursion P xs
of_members P [] h = tt
of_members P (x ∷ xs) h = (
  h x (ap (λ (b : Bool). b || is_in xs x) (eq-eqb x x refl)),
  of_members P xs (λ y e. h y (or_right (nat_eq y x) (is_in xs y) e)),
)

-- a number in two lists is in one of them
pub in_either : (P : Type 0) (xs ys : List ℕ) (x : ℕ) → is_in (xs ++ ys) x ≡ true → (is_in xs x ≡ true → P) → (is_in ys x ≡ true → P) → P
in_either P xs ys x e f g = either (is_in xs x) (is_in ys x) P (sym (list_any-append (nat_eq x) xs ys) ∙ e) f g

-- a number that is kept was there, and passes the test
pub of_kept : (P : Type 0) (test : ℕ → Bool) (xs : List ℕ) (x : ℕ) → is_in (filter test xs) x ≡ true → (is_in xs x ≡ true → test x ≡ true → P) → P
of_kept P test xs x e f =
    let both = and_both (test x) (is_in xs x) (sym (any-filter_same (nat_eq x) test (test x) (λ k q. ap test (sym (eqb-true x k q))) xs) ∙ e) in f both.1 both.0

-- a number in what is made of each of some others is in what is made of one
pub of_flat : (Q : ℕ → Type 0) (P : Type 0) (f : ℕ → List ℕ) (ds : List ℕ) (x : ℕ) → AllByRecursion Q ds → is_in (flat_map f ds) x ≡ true → ((d : ℕ) → Q d → is_in (f d) x ≡ true → P) → P
of_flat Q P f [] x h e g = absurd (never e)
of_flat Q P f (d ∷ ds) x h e g = in_either P (f d) (flat_map f ds) x e (g d h.0) (λ q. of_flat Q P f ds x h.1 q g)
