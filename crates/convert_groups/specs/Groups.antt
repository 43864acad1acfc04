-- Functions that see one another.
use Rattle.std.specs.Prelude.{◌≡◌, ℕ, ◌+◌, Bool, List, [], ◌∷◌, ◌++◌, Option, Some, None, length, map, option_map, slice_get}
use Rattle.sml_tree.specs.declared.bare.RecBinding.{RecBinding}
use Rattle.lambda_ir.specs.declared.term.Term.{Term}
use Rattle.lambda_ir.specs.declared.term.Term.TheVariants as term
use Rattle.lambda_ir.specs.Free.{function_at}
use Rattle.cps_ir.specs.declared.body.Function.{Function as Entry}
use Rattle.cps_ir.specs.Code.{Code, Functions, Function}
use Rattle.convert_laws.specs.Convert.{Scope, Kon, group_with, scope_group, size_at}
use Rattle.convert_scopes.specs.Scopes.{IsScope}
use Rattle.convert_steps.specs.declared.world.World.{World}
use Rattle.convert_steps.specs.Codes.{conv}
use Rattle.convert_steps.specs.Functions.{function_task, function_entry}
use Rattle.convert_steps.specs.Writes.{AreFrom, Grows, AreCodes}

-- ---- Which function a term is

abbrev pub function_number : List Term → ℕ → Option ℕ
function_number terms i = option_map (λ f. f.0) (function_at terms i)

abbrev pub inner_of : Option Term → Option ℕ
inner_of (Some (term.Same i)) = Some i
inner_of _ = None

-- the term that stands in the place of another
abbrev pub stands_for : List Term → ℕ → Option ℕ
stands_for terms i = inner_of (slice_get terms i)

abbrev pub number_of : ℕ → Option Term → Option ℕ
number_of i (Some (term.Fn cases)) = Some i
number_of i _ = None

-- a function's own number
abbrev pub own_number : List Term → ℕ → Option ℕ
own_number terms i = number_of i (slice_get terms i)

-- ---- Functions that are begun one after another

-- functions in front of others
abbrev pub on_top : (ℕ → Code) → List Entry → Functions → Functions
on_top body [] others = others
on_top body (f ∷ fs) others = Function f.name f.point f.params (body f.body) (on_top body fs others)

-- a function was begun, if there is one
abbrev pub IsBegun : World → World → List Entry → List Entry → ℕ → ℕ → ℕ → Option ℕ → Type 0
IsBegun w v fs gs name scope next None = (v ≡ w) × (gs ≡ fs)
IsBegun w v fs gs name scope next (Some t) = (v ≡ record w { tasks = w.tasks ++ function_task t scope next ∷ [] }) × (gs ≡ fs ++ function_entry name t next (length w.tasks) ∷ [])

module _ (own : ℕ → Bool) (terms : List Term) where
  -- functions were begun in a scope, and others are left
  pub record Begun (w v : World) (scope : ℕ) (fs : List Entry) (f g : Scope → Functions) : Type 0 where
    pub grows : Grows own terms w v
    pub scopes : v.scopes ≡ w.scopes
    pub bodies : (from : ℕ) (ns : List ℕ) → AreFrom from (length w.tasks) ns → AreFrom from (length v.tasks) (ns ++ map (λ e. e.body) fs)
    pub code : (body : ℕ → Code) → AreCodes own terms v (length w.tasks) body → (σ : Scope) → IsScope w.scopes.bounds scope σ → f σ ≡ on_top body fs (g σ)

  -- the group of a declaration, in front of a body
  abbrev pub group_code : List RecBinding → ℕ → ℕ → ℕ → Scope → Kon → Code
  group_code bindings d body n σ κ =
      group_with own terms (conv own terms) bindings (scope_group own terms bindings n σ) (conv own terms body (scope_group own terms bindings n σ) κ (n + size_at terms d)) n
