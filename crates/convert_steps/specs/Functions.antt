-- Functions that are bound.
use Rattle.std.specs.Prelude.{ℕ, suc, ◌+◌, Bool, List, [], ◌∷◌}
use Rattle.smlc_base.specs.declared.exception.LibraryExn.TheVariants as exn
use Rattle.smlc_base.specs.declared.point.Point.{Point}
use Rattle.smlc_base.specs.declared.point.PointKind.TheVariants as kind
use Rattle.sml_tree.specs.Points.{point}
use Rattle.lambda_ir.specs.declared.term.Term.{Term}
use Rattle.cps_ir.specs.declared.atom.Constant.TheVariants as constant
use Rattle.cps_ir.specs.declared.body.Bind.{Bind}
use Rattle.cps_ir.specs.declared.body.Function.{Function as Entry}
use Rattle.cps_ir.specs.Code.{Code, Fix, NoFunction}
use Rattle.convert_laws.specs.Convert.{Scope, Kon, variable, known, apply, function_of, size_at, size_cases}
use Rattle.convert_steps.specs.declared.task.Continuation.TheVariants as continuation
use Rattle.convert_steps.specs.declared.task.Task.{Task}
use Rattle.convert_steps.specs.declared.task.Work.TheVariants as work
use Rattle.convert_steps.specs.Codes.{conv, cases_at}
use Rattle.cps_ir.specs.declared.body.Bind.TheVariants as bind

-- one function of one parameter
abbrev pub one_function : ℕ → Point → ℕ → ℕ → Bind
one_function f p x body = bind.Fix (record { name = f; point = p; params = x ∷ []; body = body } ∷ [])

-- the body of the function of a term, with its parameter and its continuation from n on
abbrev pub function_task : ℕ → ℕ → ℕ → Task
function_task t scope n = record {
  work = work.Rules t (variable n) (known (constant.Library exn.MatchExn));
  scope = scope;
  continuation = continuation.Known (variable (n + 1));
  next = n + 2;
}

abbrev pub function_entry : ℕ → ℕ → ℕ → ℕ → Entry
function_entry f t n body = record { name = f; point = point t kind.Fn; params = n ∷ (n + 1) ∷ []; body = body }

-- a function is bound, and is the value
abbrev pub closure_code : (ℕ → Bool) → List Term → ℕ → ℕ → Scope → Kon → Code
closure_code own terms t n σ κ =
    Fix (function_of own terms (conv own terms) n t (cases_at terms t) σ (suc n) NoFunction) (apply κ (variable n) (3 + n + size_cases (size_at terms) (cases_at terms t)))
