-- The free variables of a term are those of its form.
use Rattle.std.proofs.Common.{◌≡◌, ℕ, List, [], ◌∷◌, Some, map, refl, sym, ap, ◌∙◌}
use Rattle.std.proofs.Math.Path.{fun_ext}
use Rattle.std.specs.Prelude.{slice_get}
use Rattle.std.specs.List.{AllByRecursion}
use Rattle.sml_tree.specs.declared.bare.RecBinding.{RecBinding}
use Rattle.sml_tree.specs.Free.{names_of}
use Rattle.sml_tree.specs.Sets.{union, union_over, without}
use Rattle.lambda_ir.specs.declared.term.Bind.{Bind}
use Rattle.lambda_ir.specs.declared.term.Case.{Case}
use Rattle.lambda_ir.specs.declared.term.Part.{Part}
use Rattle.lambda_ir.specs.declared.term.Term.{Term}
use Rattle.lambda_ir.specs.declared.term.Term.TheVariants as term
use Rattle.lambda_ir.specs.Free.{from_terms, free_tests, bound_names, free_case, free_cases, free_parts, binds_of_term, free_of_term, free_at}
use Rattle.lambda_ir.specs.Kept.{term_parts}
use Rattle.convert_laws.specs.Facts.{AreNumbered}
use Rattle.convert_laws.proofs.Unfold.{unfold_at}

module _ (f g : ℕ → List ℕ) where
  abbrev AreSame : List ℕ → Type 0
  AreSame is = AllByRecursion (λ i. f i ≡ g i) is

  parts_same : (parts : List Part) → AreSame (map (λ q. q.node) parts) → free_parts f parts ≡ free_parts g parts
  parts_same [] h = refl
  parts_same (q ∷ parts) h = ap (λ xs. union xs (free_parts f parts)) h.0 ∙ ap (union (g q.node)) (parts_same parts h.1)

  cases_same : (cases : List Case) → AreSame (map (λ c. c.body) cases) → free_cases f cases ≡ free_cases g cases
  cases_same [] h = refl
  cases_same (c ∷ cases) h =
      ap (λ xs. union (union (free_tests c.tests) (without xs (bound_names c.names))) (free_cases f cases)) h.0 ∙ ap (union (free_case g c)) (cases_same cases h.1)

  binds_same : (binds : List Bind) → AreSame (map (λ b. b.right) binds) → union_over (λ b. union (free_tests b.tests) (f b.right)) binds ≡ union_over (λ b. union (free_tests b.tests) (g b.right)) binds
  binds_same [] h = refl
  binds_same (b ∷ binds) h =
      ap (λ xs. union (union (free_tests b.tests) xs) (union_over (λ c. union (free_tests c.tests) (f c.right)) binds)) h.0 ∙ ap (union (union (free_tests b.tests) (g b.right))) (binds_same binds h.1)

  group_same : (bindings : List RecBinding) → AreSame (map (λ b. b.right) bindings) → union_over (λ b. f b.right) bindings ≡ union_over (λ b. g b.right) bindings
  group_same [] h = refl
  group_same (b ∷ bindings) h =
      ap (λ xs. union xs (union_over (λ c. f c.right) bindings)) h.0 ∙ ap (union (g b.right)) (group_same bindings h.1)

  by_parts : (terms : List Term) (t : Term) → AreSame (term_parts t) → free_of_term terms f 0 t ≡ free_of_term terms g 0 t
  by_parts terms (term.Tuple parts) h = parts_same parts h
  by_parts terms (term.App u a) h = ap (λ xs. union xs (f a)) h.0 ∙ ap (union (g u)) h.1.0
  by_parts terms (term.Match e cases) h = ap (λ xs. union xs (free_cases f cases)) h.0 ∙ ap (union (g e)) (cases_same cases h.1)
  by_parts terms (term.Fn cases) h = cases_same cases h
  by_parts terms (term.Raise e) h = h.0
  by_parts terms (term.Handle e cases) h = ap (λ xs. union xs (free_cases f cases)) h.0 ∙ ap (union (g e)) (cases_same cases h.1)
  by_parts terms (term.Same e) h = h.0
  by_parts terms (term.Let d e) h =
      ap (λ xs. union xs (without (f e) (binds_of_term (slice_get terms d)))) h.0 ∙ ap (λ xs. union (g d) (without xs (binds_of_term (slice_get terms d)))) h.1.0
  by_parts terms (term.Binds binds) h = binds_same binds h
  by_parts terms (term.Group bindings) h = ap (λ xs. without xs (names_of bindings)) (group_same bindings h)
  by_parts terms _ h = refl

-- the number of the term is no matter
by_form : (terms : List Term) (f : ℕ → List ℕ) (i : ℕ) (t : Term) → free_of_term terms f i t ≡ free_of_term terms f 0 t
by_form terms f i (term.Var x) = refl
by_form terms f i _ = refl

pub free_unfold : (terms : List Term) → AreNumbered terms → (i : ℕ) (t : Term) → slice_get terms i ≡ Some t → free_at terms i ≡ free_of_term terms (free_at terms) i t
free_unfold terms numbered i t e =
    ap (λ each. from_terms [] each terms i) same
    ∙ unfold_at [] (λ f. free_of_term terms f 0) (λ f g u h. by_parts f g terms u h) terms numbered i t e
    ∙ ap (λ each. free_of_term terms (from_terms [] each terms) 0 t) (sym same)
    ∙ sym (by_form terms (free_at terms) i t)
  where
    same : free_of_term terms ≡ (λ f i. free_of_term terms f 0)
    same = fun_ext (λ f. fun_ext (λ i. fun_ext (λ t. by_form terms f i t)))
