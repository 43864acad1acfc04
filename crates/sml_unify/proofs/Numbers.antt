-- Which variables stand in the types that there are.
use Rattle.std.proofs.Common.{◌≡◌, ℕ, zero, suc, ◌<◌, ◌≤◌, true, List, [], ◌∷◌, length, Option, Some, None, refl, sym, ap, ◌∙◌, arith}
use Rattle.std.specs.Prelude.{slice_get, map}
use Rattle.std.specs.List.{AllByRecursion}
use Rattle.std.proofs.lemmas.Bool.{eqb-true}
use Rattle.std.proofs.lemmas.Option.{slice_get-get_or}
use Rattle.sml_types.specs.declared.types.TyVar.{TyVar}
use Rattle.sml_types.specs.declared.types.TyForm.{TyForm}
use Rattle.sml_types.specs.declared.types.TyForm.TheVariants.{Var, Fields, Arrow, Named}
use Rattle.sml_types.specs.Tree.{Tree, occurs}
use Rattle.sml_types.specs.Forms.{tree, form_tree, listed, parts_of, IsNumbered}
use Rattle.sml_types.proofs.TreeFacts.{inst_same, either}
use Rattle.sml_types.proofs.FormFacts.{tree_form}
use Rattle.sml_unify.specs.Solved.{Substitution, above, Agrees, under}

pub above_at : (forms : List TyForm) (i : ℕ) (v : TyVar) → slice_get forms i ≡ Some (Var v) → v.num < above forms
above_at [] i v q = cc
above_at (Var w ∷ forms) zero v q = let same : w ≡ v = cc in let n = ap (λ (u : TyVar). u.num) same in omega arith
above_at (Fields fields ∷ forms) zero v q = cc
above_at (Arrow a b ∷ forms) zero v q = cc
above_at (Named n args ∷ forms) zero v q = cc
above_at (Var w ∷ forms) (suc i) v q = let k = above_at forms i v q in omega arith
above_at (Fields fields ∷ forms) (suc i) v q = above_at forms i v q
above_at (Arrow a b ∷ forms) (suc i) v q = above_at forms i v q
above_at (Named n args ∷ forms) (suc i) v q = above_at forms i v q

-- what stands in one of the parts
listed_above : (t : ℕ → Tree) (n x : ℕ) (is : List ℕ) → AllByRecursion (λ i. occurs x (t i) ≡ true → x < n) is → occurs x (listed t is) ≡ true → x < n
listed_above t n x [] h e = cc
listed_above t n x (i ∷ is) h e = either (occurs x (t i)) (occurs x (listed t is)) (x < n) e h.0 (listed_above t n x is h.1)

all_below : (P : ℕ → Type 0) (n : ℕ) (is : List ℕ) → ((i : ℕ) → i < n → P i) → AllByRecursion (λ i. i < n) is → AllByRecursion P is
all_below P n [] f h = tt
all_below P n (i ∷ is) f h = (f i h.0, all_below P n is f h.1)

form_above : (forms : List TyForm) (i : ℕ) (f : TyForm) (x : ℕ) → slice_get forms i ≡ Some f → AllByRecursion (λ c. occurs x (tree forms c) ≡ true → x < above forms) (parts_of f) → occurs x (form_tree (tree forms) f) ≡ true → x < above forms
form_above forms i (Var v) x q h e = let k = above_at forms i v q in let s : x ≡ v.num = eqb-true x v.num e in omega arith
form_above forms i (Fields fields) x q h e = listed_above (tree forms) (above forms) x (map (λ f. f.ty.0) fields) h e
form_above forms i (Arrow a b) x q h e = listed_above (tree forms) (above forms) x (a.0 ∷ b.0 ∷ []) h e
form_above forms i (Named n args) x q h e = listed_above (tree forms) (above forms) x (map (λ a. a.0) args) h e

upto : (forms : List TyForm) → IsNumbered forms → (n i x : ℕ) → i < n → i < length forms → occurs x (tree forms i) ≡ true → x < above forms
upto forms h zero i x lt w e = absurd (omega arith)
upto forms h (suc n) i x lt w e = go (slice_get forms i) refl (λ j l. upto forms h n j x l)
  where
    go : (o : Option TyForm) → slice_get forms i ≡ o → ((j : ℕ) → j < n → j < length forms → occurs x (tree forms j) ≡ true → x < above forms) → x < above forms
    go None q k = let d : TyForm = Arrow (record { 0 = 0 }) (record { 0 = 0 }) in let z = slice_get-get_or forms i d w in cc
    go (Some f) q k =
        form_above
        forms
        i
        f
        x
        q
        (all_below (λ c. occurs x (tree forms c) ≡ true → x < above forms) i (parts_of f) (λ c l. k c (omega arith) (omega arith)) (h i f q))
        (sym (ap (occurs x) (tree_form forms i f h q)) ∙ e)

-- the variables of types have lower numbers than a new one
pub occurs_above : (forms : List TyForm) (i x : ℕ) → IsNumbered forms → i < length forms → occurs x (tree forms i) ≡ true → x < above forms
occurs_above forms i x h w e = upto forms h (suc i) i x (omega arith) w e

-- types under substitutions that agree
pub under_agrees : (forms : List TyForm) (n : ℕ) (f g : Substitution) (i : ℕ) → IsNumbered forms → i < length forms → above forms ≤ n → Agrees n f g → under forms g i ≡ under forms f i
under_agrees forms n f g i h w le a = inst_same g f (tree forms i) (λ v e. a v (let k = occurs_above forms i v.num h w e in omega arith))
