-- The functions of a handler.
use Rattle.std.specs.Prelude.{ℕ, ◌+◌, Bool, List, [], ◌∷◌}
use Rattle.smlc_base.specs.declared.point.PointKind.{PointKind}
use Rattle.smlc_base.specs.declared.point.PointKind.TheVariants as kind
use Rattle.sml_tree.specs.Points.{point}
use Rattle.lambda_ir.specs.declared.term.Term.{Term}
use Rattle.cps_ir.specs.declared.body.Function.{Function as Entry}
use Rattle.cps_ir.specs.Code.{Code}
use Rattle.convert_laws.specs.Convert.{Scope, Kon, handled}
use Rattle.convert_steps.specs.declared.handles.HandlerNames.{HandlerNames}
use Rattle.convert_steps.specs.Codes.{conv, cases_at}

abbrev pub handler_names : ℕ → HandlerNames
handler_names n = record { catching = n + 1; popping = n + 2; packet = n + 3; value = n + 4 }

abbrev pub entry_of : ℕ → ℕ → PointKind → ℕ → ℕ → Entry
entry_of f t k x body = record { name = f; point = point t k; params = x ∷ []; body = body }

abbrev pub handler_functions : ℕ → HandlerNames → ℕ → ℕ → List Entry
handler_functions t h caught popped =
    entry_of h.catching t kind.Caught h.packet caught ∷ entry_of h.popping t kind.Popped h.value popped ∷ []

-- a term under a handler
abbrev pub handle_code : (ℕ → Bool) → List Term → ℕ → ℕ → ℕ → Scope → Kon → Code
handle_code own terms t e n σ κ = handled own terms (conv own terms) t e (cases_at terms t) σ κ n
