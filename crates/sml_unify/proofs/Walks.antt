-- Walks over a type, by a list of numbers that are left.
use Rattle.std.proofs.Common.{◌≡◌, ℕ, ◌+◌, ◌<◌, Bool, true, false, List, [], ◌∷◌, ◌++◌, length, Option, Some, refl, sym, ap, ◌∙◌, arith}
use Rattle.std.specs.Prelude.{slice_get, nat_eq, ◌||◌}
use Rattle.std.specs.List.{AllByRecursion}
use Rattle.std.proofs.lemmas.Bool.{eqb-true}
use Rattle.sml_types.specs.declared.types.Ty.{Ty}
use Rattle.sml_types.specs.declared.types.TyVar.{TyVar}
use Rattle.sml_types.specs.declared.types.TyForm.{TyForm}
use Rattle.sml_types.specs.declared.types.TyForm.TheVariants.{Var, Fields, Arrow, Named}
use Rattle.sml_types.specs.Tree.{Tree, Variable, App, inst, occurs, size}
use Rattle.sml_types.specs.Forms.{tree, form_tree, listed, parts_of, head_of}
use Rattle.sml_types.proofs.FormFacts.{tree_form, all_mono}
use Rattle.sml_unify.specs.Solved.{Substitution, IsSolved, IsFree, IsSameType, under, meant}
use Rattle.sml_unify.proofs.Meant.{meant_solves, meant_free}
use Rattle.sml_unify.proofs.Heads.{tree_var}

pub all_append : {A : Type 0} (P : A → Type 0) (xs ys : List A) → AllByRecursion P xs → AllByRecursion P ys → AllByRecursion P (xs ++ ys)
all_append P [] ys h g = g
all_append P (x ∷ xs) ys h g = (h.0, all_append P xs ys h.1 g)

pub all_left : {A : Type 0} (P : A → Type 0) (xs ys : List A) → AllByRecursion P (xs ++ ys) → AllByRecursion P xs
all_left P [] ys h = tt
all_left P (x ∷ xs) ys h = (h.0, all_left P xs ys h.1)

pub all_right : {A : Type 0} (P : A → Type 0) (xs ys : List A) → AllByRecursion P (xs ++ ys) → AllByRecursion P ys
all_right P [] ys h = h
all_right P (x ∷ xs) ys h = all_right P xs ys h.1

or_assoc : (a b c : Bool) → ((a || b) || c) ≡ (a || (b || c))
or_assoc true b c = refl
or_assoc false b c = refl

pub size_append : (f : Substitution) (t : ℕ → Tree) (xs ys : List ℕ) → size (inst f (listed t (xs ++ ys))) ≡ size (inst f (listed t xs)) + size (inst f (listed t ys))
size_append f t [] ys = omega arith
size_append f t (x ∷ xs) ys = omega (arith, size_append f t xs ys)

pub occurs_append : (n : ℕ) (f : Substitution) (t : ℕ → Tree) (xs ys : List ℕ) → occurs n (inst f (listed t (xs ++ ys))) ≡ (occurs n (inst f (listed t xs)) || occurs n (inst f (listed t ys)))
occurs_append n f t [] ys = refl
occurs_append n f t (x ∷ xs) ys = ap (λ w. occurs n (inst f (t x)) || w) (occurs_append n f t xs ys) ∙ sym (or_assoc (occurs n (inst f (t x))) (occurs n (inst f (listed t xs))) (occurs n (inst f (listed t ys))))

pub form_app : (p : ℕ → Tree) (f : TyForm) → ((v : TyVar) → f ≡ Var v → ⊥) → form_tree p f ≡ App (head_of f) (listed p (parts_of f))
form_app p (Var v) h = absurd (h v refl)
form_app p (Fields fields) h = refl
form_app p (Arrow a b) h = refl
form_app p (Named n args) h = refl

module _ (forms : List TyForm) (bound : List (Option Ty)) (s : IsSolved forms bound) where
  -- a number whose form is no variable
  pub at_app : (f : Substitution) (j : ℕ) (form : TyForm) → slice_get forms j ≡ Some form → ((v : TyVar) → form ≡ Var v → ⊥) → under forms f j ≡ App (head_of form) (inst f (listed (tree forms) (parts_of form)))
  at_app f j form q h = ap (inst f) (tree_form forms j form s.numbered q ∙ form_app (tree forms) form h)

  -- a variable that is not bound
  pub at_var : (j : ℕ) (v : TyVar) → slice_get forms j ≡ Some (Var v) → IsFree forms bound j → under forms (meant forms bound) j ≡ Variable v
  at_var j v q free = ap (inst (meant forms bound)) (tree_var forms bound j v s q) ∙ meant_free forms bound v (free v q)

  pub parts_within : (j : ℕ) (form : TyForm) → j < length forms → slice_get forms j ≡ Some form → AllByRecursion (λ c. c < length forms) (parts_of form)
  parts_within j form lt q = all_mono (λ c. c < j) (λ c. c < length forms) (parts_of form) (λ c k. omega arith) (s.numbered j form q)

  abbrev meaning : ℕ → Tree
  meaning i = under forms (meant forms bound) i

  -- the last number that is left is a variable
  pub left_var : (n : ℕ) (rest : List ℕ) (i j : ℕ) (v : TyVar) → IsSameType forms bound i j → slice_get forms j ≡ Some (Var v) → IsFree forms bound j → occurs n (inst (meant forms bound) (listed (tree forms) (rest ++ i ∷ []))) ≡ (occurs n (inst (meant forms bound) (listed (tree forms) rest)) || nat_eq n v.num)
  left_var n rest i j v same q free =
      occurs_append n (meant forms bound) (tree forms) rest (i ∷ [])
      ∙ ap (λ b. occurs n (inst (meant forms bound) (listed (tree forms) rest)) || (b || false)) (ap (occurs n) (same (meant forms bound) (meant_solves forms bound s.acyclic) ∙ at_var j v q free))
      ∙ ap (λ b. occurs n (inst (meant forms bound) (listed (tree forms) rest)) || b) (or_false (nat_eq n v.num))
    where
      or_false : (b : Bool) → (b || false) ≡ b
      or_false true = refl
      or_false false = refl

  -- it is none
  pub left_app : (n : ℕ) (rest : List ℕ) (i j : ℕ) (form : TyForm) → IsSameType forms bound i j → slice_get forms j ≡ Some form → ((v : TyVar) → form ≡ Var v → ⊥) → occurs n (inst (meant forms bound) (listed (tree forms) (rest ++ i ∷ []))) ≡ occurs n (inst (meant forms bound) (listed (tree forms) (rest ++ parts_of form)))
  left_app n rest i j form same q h =
      occurs_append n (meant forms bound) (tree forms) rest (i ∷ [])
      ∙ ap (λ b. occurs n (inst (meant forms bound) (listed (tree forms) rest)) || (b || false)) (ap (occurs n) (same (meant forms bound) (meant_solves forms bound s.acyclic) ∙ at_app (meant forms bound) j form q h))
      ∙ ap (λ b. occurs n (inst (meant forms bound) (listed (tree forms) rest)) || b) (or_false (occurs n (inst (meant forms bound) (listed (tree forms) (parts_of form)))))
      ∙ sym (occurs_append n (meant forms bound) (tree forms) rest (parts_of form))
    where
      or_false : (b : Bool) → (b || false) ≡ b
      or_false true = refl
      or_false false = refl

  -- less is left
  pub falls_var : (rest : List ℕ) (i j : ℕ) (v : TyVar) → IsSameType forms bound i j → slice_get forms j ≡ Some (Var v) → IsFree forms bound j → size (inst (meant forms bound) (listed (tree forms) rest)) < size (inst (meant forms bound) (listed (tree forms) (rest ++ i ∷ [])))
  falls_var rest i j v same q free =
      let a = size_append (meant forms bound) (tree forms) rest (i ∷ []) in
      let b : size (meaning i) ≡ 1 = ap size (same (meant forms bound) (meant_solves forms bound s.acyclic) ∙ at_var j v q free) in
      omega arith

  pub falls_app : (rest : List ℕ) (i j : ℕ) (form : TyForm) → IsSameType forms bound i j → slice_get forms j ≡ Some form → ((v : TyVar) → form ≡ Var v → ⊥) → size (inst (meant forms bound) (listed (tree forms) (rest ++ parts_of form))) < size (inst (meant forms bound) (listed (tree forms) (rest ++ i ∷ [])))
  falls_app rest i j form same q h =
      let a = size_append (meant forms bound) (tree forms) rest (i ∷ []) in
      let c = size_append (meant forms bound) (tree forms) rest (parts_of form) in
      let b : size (meaning i) ≡ 1 + size (inst (meant forms bound) (listed (tree forms) (parts_of form))) = ap size (same (meant forms bound) (meant_solves forms bound s.acyclic) ∙ at_app (meant forms bound) j form q h) in
      omega arith

pub or_skip : (a b : Bool) → b ≡ false → (a || b) ≡ a
or_skip true b e = refl
or_skip false b e = e

pub other_number : (x y : ℕ) → (y ≡ x → ⊥) → nat_eq x y ≡ false
other_number x y h = go (nat_eq x y) refl
  where
    go : (b : Bool) → nat_eq x y ≡ b → b ≡ false
    go true e = absurd (h (sym (eqb-true x y e)))
    go false e = refl
