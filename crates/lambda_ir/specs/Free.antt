-- The variables that are free in a term.
use Rattle.std.specs.Prelude.{ℕ, zero, suc, Bool, true, false, List, [], ◌∷◌, Option, Some, None, length, slice_get}
use Rattle.smlc_base.specs.declared.match_tests.Want.{Want}
use Rattle.smlc_base.specs.declared.match_tests.Want.TheVariants as want
use Rattle.smlc_base.specs.declared.match_tests.Test.{Test}
use Rattle.smlc_base.specs.declared.match_tests.Named.{Named}
use Rattle.smlc_base.specs.declared.primitive.Primitive.{Primitive}
use Rattle.smlc_base.specs.declared.primitive.Primitive.TheVariants as prim
use Rattle.sml_tree.specs.declared.bare.Con.{Con}
use Rattle.sml_tree.specs.declared.bare.Con.TheVariants as con
use Rattle.sml_tree.specs.Sets.{union, union_over, without}
use Rattle.sml_tree.specs.Free.{exception_of, names_of}
use Rattle.lambda_ir.specs.declared.term.Case.{Case}
use Rattle.lambda_ir.specs.declared.term.Bind.{Bind}
use Rattle.lambda_ir.specs.declared.term.Part.{Part}
use Rattle.lambda_ir.specs.declared.term.Term.{Term}
use Rattle.lambda_ir.specs.declared.term.Term.TheVariants as term

module _ {A : Type 0} (none : A) (each : (ℕ → A) → ℕ → Term → A) where
  abbrev pub at_term : (ℕ → A) → ℕ → Option Term → A
  at_term part i None = none
  at_term part i (Some n) = each part i n

  -- what holds of term i, from what holds of its parts, down to k levels
  abbrev pub within_terms : ℕ → List Term → ℕ → A
  within_terms zero terms i = none
  within_terms (suc k) terms i = at_term (within_terms k terms) i (slice_get terms i)

  abbrev pub from_terms : List Term → ℕ → A
  from_terms terms i = within_terms (length terms) terms i

abbrev pub exn_wanted : Want → List ℕ
exn_wanted (want.Exn x applied) = x.0 ∷ []
exn_wanted _ = []

-- the exception names that tests want
abbrev pub free_tests : List Test → List ℕ
free_tests tests = union_over (λ t. exn_wanted t.want) tests

abbrev pub bound_names : List Named → List ℕ
bound_names names = union_over (λ n. n.name.0 ∷ []) names

abbrev pub free_case : (ℕ → List ℕ) → Case → List ℕ
free_case free c = union (free_tests c.tests) (without (free c.body) (bound_names c.names))

abbrev pub free_cases : (ℕ → List ℕ) → List Case → List ℕ
free_cases free cases = union_over (free_case free) cases

abbrev pub free_parts : (ℕ → List ℕ) → List Part → List ℕ
free_parts free parts = union_over (λ q. free q.node) parts

abbrev pub bound_in : List Bind → List ℕ
bound_in binds = union_over (λ b. bound_names b.names) binds

-- of what is done behind the right side of b
abbrev pub free_behind : (ℕ → List ℕ) → Bind → List Bind → ℕ → List ℕ
free_behind free b later body =
    union (union_over (λ c. free_tests c.tests) (b ∷ later)) (union (union_over (λ c. free c.right) later) (without (free body) (bound_in (b ∷ later))))

-- the names that a declaration binds
abbrev pub binds_of_term : Option Term → List ℕ
binds_of_term (Some (term.Binds binds)) = bound_in binds
binds_of_term (Some (term.Group bindings)) = names_of bindings
binds_of_term (Some (term.NewExn x)) = x.0 ∷ []
binds_of_term (Some (term.SameExn x c)) = x.0 ∷ []
binds_of_term _ = []

abbrev pub free_of_term : List Term → (ℕ → List ℕ) → ℕ → Term → List ℕ
free_of_term terms free i (term.Var x) = x.0 ∷ []
free_of_term terms free i (term.Constructor c) = exception_of c
free_of_term terms free i (term.Tuple parts) = free_parts free parts
free_of_term terms free i (term.App f a) = union (free f) (free a)
free_of_term terms free i (term.Match e cases) = union (free e) (free_cases free cases)
free_of_term terms free i (term.Fn cases) = free_cases free cases
free_of_term terms free i (term.Raise e) = free e
free_of_term terms free i (term.Handle e cases) = union (free e) (free_cases free cases)
free_of_term terms free i (term.Same e) = free e
free_of_term terms free i (term.Let d e) = union (free d) (without (free e) (binds_of_term (slice_get terms d)))
free_of_term terms free i (term.Binds binds) = union_over (λ b. union (free_tests b.tests) (free b.right)) binds
free_of_term terms free i (term.Group bindings) = without (union_over (λ b. free b.right) bindings) (names_of bindings)
free_of_term terms free i (term.SameExn x c) = exception_of c
free_of_term terms free i _ = []

abbrev pub free_at : List Term → ℕ → List ℕ
free_at terms = from_terms [] (free_of_term terms) terms

-- the function of a term of a group, which may stand behind others
abbrev pub function_of_term : (ℕ → Option (ℕ × List Case)) → ℕ → Term → Option (ℕ × List Case)
function_of_term part i (term.Fn cases) = Some (i, cases)
function_of_term part i (term.Same e) = part e
function_of_term part i _ = None

abbrev pub function_at : List Term → ℕ → Option (ℕ × List Case)
function_at = from_terms None function_of_term

-- ---- Function parts

-- What stands as the function part of an application: something computed, a constant that stands as a function part alone (a comparison or another),
-- or an exception name.
pub data Operator : Type 0 where
  Computed : Operator
  Constant : (compares : Bool) → Operator
  Exception : Operator

abbrev pub is_comparison : Primitive → Bool
is_comparison prim.Equal = true
is_comparison prim.Unequal = true
is_comparison _ = false

abbrev pub operator_con : Con → Operator
operator_con (con.Exn x takes) = Exception
operator_con _ = Constant false

abbrev pub operator_term : (ℕ → Operator) → ℕ → Term → Operator
operator_term part i (term.Builtin f) = Constant (is_comparison f)
operator_term part i (term.Constructor c) = operator_con c
operator_term part i (term.Same e) = part e
operator_term part i _ = Computed

abbrev pub operator_at : List Term → ℕ → Operator
operator_at = from_terms Computed operator_term
