-- What is asked of a term goes by what is asked of its parts.
use Rattle.std.proofs.Common.{◌≡◌, ℕ, suc, ◌+◌, Bool, false, List, [], ◌∷◌, Some, refl, ap, ◌∙◌, map}
use Rattle.std.specs.Prelude.{slice_get}
use Rattle.std.specs.List.{AllByRecursion}
use Rattle.sml_tree.specs.declared.bare.RecBinding.{RecBinding}
use Rattle.smlc_base.specs.declared.match_tests.Test.{Test}
use Rattle.lambda_ir.specs.declared.term.Bind.{Bind}
use Rattle.lambda_ir.specs.declared.term.Case.{Case}
use Rattle.lambda_ir.specs.declared.term.Part.{Part}
use Rattle.lambda_ir.specs.declared.term.Term.{Term}
use Rattle.lambda_ir.specs.declared.term.Term.TheVariants as term
use Rattle.lambda_ir.specs.Kept.{term_parts}
use Rattle.convert_laws.specs.declared.head.Head.{Head}
use Rattle.convert_laws.specs.declared.head.Head.TheVariants as head
use Rattle.convert_laws.specs.Facts.{AreNumbered}
use Rattle.convert_laws.specs.Needs.{is_atom, is_atom_term, is_tuple, is_tuple_term, head_at, head_term, calls, needs, needs_term, live, live_from, in_two}
use Rattle.convert_laws.specs.Convert.{steps_of, size_cases, size_parts, size_binds, size_group, size_term, size_at}
use Rattle.convert_laws.proofs.Unfold.{GoesByParts, unfold_at}

-- equal in both arguments
ap2 : {A B C : Type 0} → (f : A → B → C) → {a a' : A} → {b b' : B} → a ≡ a' → b ≡ b' → f a b ≡ f a' b'
ap2 f {a} {a'} {b} {b'} e h = ap (λ x. f x b) e ∙ ap (f a') h

pub atom_by_parts : GoesByParts is_atom_term
atom_by_parts f g (term.Same e) h = h.0
atom_by_parts f g (term.Int z) h = refl
atom_by_parts f g (term.Char c) h = refl
atom_by_parts f g (term.Text t) h = refl
atom_by_parts f g (term.Var x) h = refl
atom_by_parts f g (term.Constructor c) h = refl
atom_by_parts f g (term.Builtin p) h = refl
atom_by_parts f g (term.Tuple parts) h = refl
atom_by_parts f g (term.App u a) h = refl
atom_by_parts f g (term.Match e cases) h = refl
atom_by_parts f g (term.Fn cases) h = refl
atom_by_parts f g (term.Raise e) h = refl
atom_by_parts f g (term.Handle e cases) h = refl
atom_by_parts f g (term.Let d e) h = refl
atom_by_parts f g term.Finish h = refl
atom_by_parts f g (term.Binds binds) h = refl
atom_by_parts f g (term.Group bindings) h = refl
atom_by_parts f g (term.NewExn x) h = refl
atom_by_parts f g (term.SameExn x c) h = refl
atom_by_parts f g term.Nothing h = refl
atom_by_parts f g term.Gone h = refl

pub tuple_by_parts : GoesByParts is_tuple_term
tuple_by_parts f g (term.Same e) h = h.0
tuple_by_parts f g (term.Int z) h = refl
tuple_by_parts f g (term.Char c) h = refl
tuple_by_parts f g (term.Text t) h = refl
tuple_by_parts f g (term.Var x) h = refl
tuple_by_parts f g (term.Constructor c) h = refl
tuple_by_parts f g (term.Builtin p) h = refl
tuple_by_parts f g (term.Tuple parts) h = refl
tuple_by_parts f g (term.App u a) h = refl
tuple_by_parts f g (term.Match e cases) h = refl
tuple_by_parts f g (term.Fn cases) h = refl
tuple_by_parts f g (term.Raise e) h = refl
tuple_by_parts f g (term.Handle e cases) h = refl
tuple_by_parts f g (term.Let d e) h = refl
tuple_by_parts f g term.Finish h = refl
tuple_by_parts f g (term.Binds binds) h = refl
tuple_by_parts f g (term.Group bindings) h = refl
tuple_by_parts f g (term.NewExn x) h = refl
tuple_by_parts f g (term.SameExn x c) h = refl
tuple_by_parts f g term.Nothing h = refl
tuple_by_parts f g term.Gone h = refl

pub head_by_parts : GoesByParts head_term
head_by_parts f g (term.Same e) h = h.0
head_by_parts f g (term.Int z) h = refl
head_by_parts f g (term.Char c) h = refl
head_by_parts f g (term.Text t) h = refl
head_by_parts f g (term.Var x) h = refl
head_by_parts f g (term.Constructor c) h = refl
head_by_parts f g (term.Builtin p) h = refl
head_by_parts f g (term.Tuple parts) h = refl
head_by_parts f g (term.App u a) h = refl
head_by_parts f g (term.Match e cases) h = refl
head_by_parts f g (term.Fn cases) h = refl
head_by_parts f g (term.Raise e) h = refl
head_by_parts f g (term.Handle e cases) h = refl
head_by_parts f g (term.Let d e) h = refl
head_by_parts f g term.Finish h = refl
head_by_parts f g (term.Binds binds) h = refl
head_by_parts f g (term.Group bindings) h = refl
head_by_parts f g (term.NewExn x) h = refl
head_by_parts f g (term.SameExn x c) h = refl
head_by_parts f g term.Nothing h = refl
head_by_parts f g term.Gone h = refl

-- ---- Needs

in_two_from : (f g : ℕ → Bool) (tests : List Test) (c : Case) (cs ds : List Case) → f c.body ≡ g c.body → in_two f (live_from tests c (live cs)) ≡ in_two g (live_from tests c (live cs))
in_two_from f g [] c cs ds e = e
in_two_from f g (t ∷ tests) c cs ds e = go (live cs)
  where
    go : (l : List Case) → in_two f (c ∷ l) ≡ in_two g (c ∷ l)
    go [] = e
    go (d ∷ l) = refl

pub in_two_same : (f g : ℕ → Bool) (cases : List Case) → AllByRecursion (λ c. f c ≡ g c) (map (λ c. c.body) cases) → in_two f (live cases) ≡ in_two g (live cases)
in_two_same f g [] h = refl
in_two_same f g (c ∷ cases) h = in_two_from f g c.tests c cases cases h.0

module _ (heads : ℕ → Head) where
  pub needs_by_parts : GoesByParts (needs_term heads)
  needs_by_parts f g (term.Match e cases) h = in_two_same f g cases h.1
  needs_by_parts f g (term.Same e) h = h.0
  needs_by_parts f g (term.Let d e) h = h.1.0
  needs_by_parts f g (term.Int z) h = refl
  needs_by_parts f g (term.Char c) h = refl
  needs_by_parts f g (term.Text t) h = refl
  needs_by_parts f g (term.Var x) h = refl
  needs_by_parts f g (term.Constructor c) h = refl
  needs_by_parts f g (term.Builtin p) h = refl
  needs_by_parts f g (term.Tuple parts) h = refl
  needs_by_parts f g (term.App u a) h = refl
  needs_by_parts f g (term.Fn cases) h = refl
  needs_by_parts f g (term.Raise e) h = refl
  needs_by_parts f g (term.Handle e cases) h = refl
  needs_by_parts f g term.Finish h = refl
  needs_by_parts f g (term.Binds binds) h = refl
  needs_by_parts f g (term.Group bindings) h = refl
  needs_by_parts f g (term.NewExn x) h = refl
  needs_by_parts f g (term.SameExn x c) h = refl
  needs_by_parts f g term.Nothing h = refl
  needs_by_parts f g term.Gone h = refl

-- ---- Sizes

module _ (f g : ℕ → ℕ) where
  cases_same : (cases : List Case) → AllByRecursion (λ c. f c ≡ g c) (map (λ c. c.body) cases) → size_cases f cases ≡ size_cases g cases
  cases_same [] h = refl
  cases_same (c ∷ cases) h = ap2 (λ m n. steps_of c.names + (m + n)) h.0 (cases_same cases h.1)

  parts_same : (parts : List Part) → AllByRecursion (λ c. f c ≡ g c) (map (λ q. q.node) parts) → size_parts f parts ≡ size_parts g parts
  parts_same [] h = refl
  parts_same (q ∷ parts) h = ap2 (λ m n. 2 + (m + n)) h.0 (parts_same parts h.1)

  binds_same : (binds : List Bind) → AllByRecursion (λ c. f c ≡ g c) (map (λ b. b.right) binds) → size_binds f binds ≡ size_binds g binds
  binds_same [] h = refl
  binds_same (b ∷ binds) h = ap2 (λ m n. 2 + (steps_of b.names + (m + n))) h.0 (binds_same binds h.1)

  group_same : (bindings : List RecBinding) → AllByRecursion (λ c. f c ≡ g c) (map (λ b. b.right) bindings) → size_group f bindings ≡ size_group g bindings
  group_same [] h = refl
  group_same (b ∷ bindings) h = ap2 (λ m n. suc (m + n)) h.0 (group_same bindings h.1)

pub size_by_parts : GoesByParts size_term
size_by_parts f g (term.Tuple parts) h = ap suc (parts_same f g parts h)
size_by_parts f g (term.App u a) h = ap2 (λ m n. 8 + (m + n)) h.0 h.1.0
size_by_parts f g (term.Match e cases) h = ap2 (λ m n. 2 + (m + n)) h.0 (cases_same f g cases h.1)
size_by_parts f g (term.Fn cases) h = ap (λ n. 3 + n) (cases_same f g cases h)
size_by_parts f g (term.Raise e) h = ap (λ n. 2 + n) h.0
size_by_parts f g (term.Handle e cases) h = ap2 (λ m n. 5 + (m + n)) h.0 (cases_same f g cases h.1)
size_by_parts f g (term.Same e) h = h.0
size_by_parts f g (term.Let d e) h = ap2 (λ m n. m + n) h.0 h.1.0
size_by_parts f g (term.Binds binds) h = binds_same f g binds h
size_by_parts f g (term.Group bindings) h = group_same f g bindings h
size_by_parts f g (term.Int z) h = refl
size_by_parts f g (term.Char c) h = refl
size_by_parts f g (term.Text t) h = refl
size_by_parts f g (term.Var x) h = refl
size_by_parts f g (term.Constructor c) h = refl
size_by_parts f g (term.Builtin p) h = refl
size_by_parts f g term.Finish h = refl
size_by_parts f g (term.NewExn x) h = refl
size_by_parts f g (term.SameExn x c) h = refl
size_by_parts f g term.Nothing h = refl
size_by_parts f g term.Gone h = refl

-- ---- Facts of a program's terms, by those of their parts

needs_by_heads : (heads others : ℕ → Head) (f : ℕ → Bool) (t : Term) → AllByRecursion (λ c. heads c ≡ others c) (term_parts t) → needs_term heads f t ≡ needs_term others f t
needs_by_heads heads others f (term.App u a) h = ap calls h.0
needs_by_heads heads others f (term.Match e cases) h = refl
needs_by_heads heads others f (term.Same e) h = refl
needs_by_heads heads others f (term.Let d e) h = refl
needs_by_heads heads others f (term.Int z) h = refl
needs_by_heads heads others f (term.Char c) h = refl
needs_by_heads heads others f (term.Text t) h = refl
needs_by_heads heads others f (term.Var x) h = refl
needs_by_heads heads others f (term.Constructor c) h = refl
needs_by_heads heads others f (term.Builtin p) h = refl
needs_by_heads heads others f (term.Tuple parts) h = refl
needs_by_heads heads others f (term.Fn cases) h = refl
needs_by_heads heads others f (term.Raise e) h = refl
needs_by_heads heads others f (term.Handle e cases) h = refl
needs_by_heads heads others f term.Finish h = refl
needs_by_heads heads others f (term.Binds binds) h = refl
needs_by_heads heads others f (term.Group bindings) h = refl
needs_by_heads heads others f (term.NewExn x) h = refl
needs_by_heads heads others f (term.SameExn x c) h = refl
needs_by_heads heads others f term.Nothing h = refl
needs_by_heads heads others f term.Gone h = refl

pub needs_by_all : (heads others : ℕ → Head) (f g : ℕ → Bool) (t : Term) → AllByRecursion (λ c. heads c ≡ others c) (term_parts t) → AllByRecursion (λ c. f c ≡ g c) (term_parts t) → needs_term heads f t ≡ needs_term others g t
needs_by_all heads others f g t h e = needs_by_heads heads others f t h ∙ needs_by_parts others f g t e

module _ (terms : List Term) (numbered : AreNumbered terms) (i : ℕ) (t : Term) (here : slice_get terms i ≡ Some t) where
  pub atom_here : is_atom terms i ≡ is_atom_term (is_atom terms) t
  atom_here = unfold_at false is_atom_term atom_by_parts terms numbered i t here

  pub tuple_here : is_tuple terms i ≡ is_tuple_term (is_tuple terms) t
  tuple_here = unfold_at false is_tuple_term tuple_by_parts terms numbered i t here

  pub head_here : head_at terms i ≡ head_term (head_at terms) t
  head_here = unfold_at head.Computed head_term head_by_parts terms numbered i t here

  pub needs_here : needs terms i ≡ needs_term (head_at terms) (needs terms) t
  needs_here = unfold_at false (needs_term (head_at terms)) (needs_by_parts (head_at terms)) terms numbered i t here

  pub size_here : size_at terms i ≡ size_term (size_at terms) t
  size_here = unfold_at 0 size_term size_by_parts terms numbered i t here
