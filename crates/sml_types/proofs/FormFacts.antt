-- The type of a number is that of its form.
use Rattle.std.proofs.Common.{◌≡◌, ℕ, zero, suc, ◌+◌, ◌<◌, List, [], ◌∷◌, ◌++◌, length, Some, refl, sym, ap, ◌∙◌, arith, length-append}
use Rattle.std.specs.Prelude.{map, fold, slice_get}
use Rattle.std.specs.List.{AllByRecursion}
use Rattle.std.proofs.lemmas.List.Sums.{fold-append}
use Rattle.sml_types.specs.declared.types.TyForm.{TyForm}
use Rattle.sml_types.specs.declared.types.TyForm.TheVariants.{Var, Fields, Arrow, Named}
use Rattle.sml_types.specs.Tree.{Tree, App, FieldsHead, NameHead, ArrowHead}
use Rattle.sml_types.specs.Forms.{parts_of, listed, form_tree, tree_at, trees, tree, IsNumbered}

listed_same : (f g : ℕ → Tree) (is : List ℕ) → AllByRecursion (λ c. f c ≡ g c) is → listed f is ≡ listed g is
listed_same f g [] h = refl
listed_same f g (i ∷ is) h = let l = h.0 in let r = listed_same f g is h.1 in cc

pub form_same : (f g : ℕ → Tree) (form : TyForm) → AllByRecursion (λ c. f c ≡ g c) (parts_of form) → form_tree f form ≡ form_tree g form
form_same f g (Var v) h = refl
form_same f g (Fields fields) h = ap (App (FieldsHead (map (λ x. x.lab) fields))) (listed_same f g (map (λ x. x.ty.0) fields) h)
form_same f g (Arrow a b) h = ap (App ArrowHead) (listed_same f g (a.0 ∷ b.0 ∷ []) h)
form_same f g (Named n args) h = ap (App (NameHead n)) (listed_same f g (map (λ x. x.0) args) h)

pub all_mono : (P Q : ℕ → Type 0) (is : List ℕ) → ((i : ℕ) → P i → Q i) → AllByRecursion P is → AllByRecursion Q is
all_mono P Q [] f h = tt
all_mono P Q (i ∷ is) f h = (f i h.0, all_mono P Q is f h.1)

at_old : (done : List Tree) (x : Tree) (k : ℕ) → k < length done → tree_at (done ++ x ∷ []) k ≡ tree_at done k
at_old [] x k h = absurd (omega arith)
at_old (y ∷ done) x zero h = refl
at_old (y ∷ done) x (suc k) h = at_old done x k (omega arith)

at_last : (done : List Tree) (x : Tree) → tree_at (done ++ x ∷ []) (length done) ≡ x
at_last [] x = refl
at_last (y ∷ done) x = at_last done x

abbrev grown : List Tree → List TyForm → List Tree
grown done forms = fold (λ d f. d ++ form_tree (tree_at d) f ∷ []) done forms

grown_keeps : (done : List Tree) (forms : List TyForm) (k : ℕ) → k < length done → tree_at (grown done forms) k ≡ tree_at done k
grown_keeps done [] k h = refl
grown_keeps done (f ∷ forms) k h =
    grown_keeps (done ++ form_tree (tree_at done) f ∷ []) forms k (omega (arith, length-append done (form_tree (tree_at done) f ∷ [])))
    ∙ at_old done (form_tree (tree_at done) f) k h

grown_at : (done : List Tree) (forms : List TyForm) (i m : ℕ) (f : TyForm) → m ≡ length done + i → slice_get forms i ≡ Some f → AllByRecursion (λ c. c < m) (parts_of f) → tree_at (grown done forms) m ≡ form_tree (tree_at (grown done forms)) f
grown_at done [] i m f e q h = cc
grown_at done (g ∷ forms) zero m f e q h =
    let next : List Tree = done ++ form_tree (tree_at done) g ∷ [] in
    let same : g ≡ f = cc in
    let here : m ≡ length done = omega arith in
    ap (tree_at (grown next forms)) here
    ∙ grown_keeps next forms (length done) (omega (arith, length-append done (form_tree (tree_at done) g ∷ [])))
    ∙ at_last done (form_tree (tree_at done) g)
    ∙ ap (form_tree (tree_at done)) same
    ∙ form_same (tree_at done) (tree_at (grown next forms)) f (all_mono (λ c. c < m) (λ c. tree_at done c ≡ tree_at (grown next forms) c) (parts_of f) (λ c lt. sym (grown_keeps done (g ∷ forms) c (omega arith))) h)
grown_at done (g ∷ forms) (suc i) m f e q h =
    grown_at (done ++ form_tree (tree_at done) g ∷ []) forms i m f (omega (arith, length-append done (form_tree (tree_at done) g ∷ []))) q h

-- the type of a number is that of its form
pub tree_form : (forms : List TyForm) (i : ℕ) (f : TyForm) → IsNumbered forms → slice_get forms i ≡ Some f → tree forms i ≡ form_tree (tree forms) f
unfolding trees tree
tree_form forms i f h q = grown_at [] forms i i f (omega arith) q (h i f q)

length-grown : (done : List Tree) (forms : List TyForm) → length (grown done forms) ≡ length done + length forms
length-grown done [] = omega arith
length-grown done (f ∷ forms) = omega (arith, length-grown (done ++ form_tree (tree_at done) f ∷ []) forms, length-append done (form_tree (tree_at done) f ∷ []))

-- one more form changes no type
pub tree_more : (forms : List TyForm) (f : TyForm) (i : ℕ) → i < length forms → tree (forms ++ f ∷ []) i ≡ tree forms i
unfolding trees tree
tree_more forms f i h =
    ap (λ ts. tree_at ts i) (fold-append (λ d g. d ++ form_tree (tree_at d) g ∷ []) [] forms (f ∷ []))
    ∙ at_old (grown [] forms) (form_tree (tree_at (grown [] forms)) f) i (omega (arith, length-grown [] forms))

pub tree_new : (forms : List TyForm) (f : TyForm) → tree (forms ++ f ∷ []) (length forms) ≡ form_tree (tree forms) f
unfolding trees tree
tree_new forms f =
    ap (λ ts. tree_at ts (length forms)) (fold-append (λ d g. d ++ form_tree (tree_at d) g ∷ []) [] forms (f ∷ []))
    ∙ ap (tree_at (grown [] forms ++ form_tree (tree_at (grown [] forms)) f ∷ [])) (sym (length-grown [] forms ∙ omega arith))
    ∙ at_last (grown [] forms) (form_tree (tree_at (grown [] forms)) f)

-- what holds of each item's image
pub all_map : {A : Type 0} (P : ℕ → Type 0) (g : A → ℕ) (xs : List A) → AllByRecursion (λ x. P (g x)) xs → AllByRecursion P (map g xs)
all_map P g [] h = tt
all_map P g (x ∷ xs) h = (h.0, all_map P g xs h.1)
