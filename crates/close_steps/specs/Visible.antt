-- What is decided of a program's functions, and what a body sees, as data.
use Rattle.std.specs.Prelude.{◌≡◌, ℕ, ◌+◌, pos, Bool, true, false, List, Option, Some, None, slice_get}
use Rattle.smlc_base.specs.declared.point.Point.{Point}
use Rattle.closure_ir.specs.declared.operand.Static.TheVariants as static
use Rattle.closure_ir.specs.declared.operand.Operand.{Operand}
use Rattle.closure_ir.specs.declared.operand.Operand.TheVariants as operand
use Rattle.close_laws.specs.Layouts.{vars_in}
use Rattle.close_laws.specs.Lower.{Design, Places, Hand}
use Rattle.close_laws.specs.Close.{nowhere, none_at_hand}
use Rattle.close_scopes.specs.declared.scopes.Bound.{Bound}
use Rattle.close_scopes.specs.declared.scopes.Link.{Link}
use Rattle.close_scopes.specs.Scopes.{bounds, places_of, hand_of}
use Rattle.close_steps.specs.declared.decisions.Decision.{Decision}
use Rattle.close_steps.specs.declared.decisions.Decisions.{Decisions}
use Rattle.close_steps.specs.declared.environment.Environment.{Environment}

-- ---- The function that a variable is bound to

abbrev pub at_number : List Decision → Option (Option ℕ) → Option Decision
at_number functions (Some (Some i)) = slice_get functions i
at_number functions _ = None

abbrev pub decided : Decisions → ℕ → Option Decision
decided d x = at_number d.functions (slice_get d.numbers x)

abbrev pub class_members : Decisions → ℕ → List ℕ
class_members d k = vars_in (slice_get d.classes.of k)

abbrev pub decision_of : Design → Option Point → Option Decision
decision_of S None = None
decision_of S (Some p) =
    Some (record { label = record { 0 = S.label p }; is_static = S.static p; has_code = S.code p; classes = S.classes p; own = S.own p })

-- the tables have what a design decides
pub record Have (S : Design) (d : Decisions) : Type 0 where
  pub functions : (x : ℕ) → decided d x ≡ decision_of S (S.known x)
  pub members : (k : ℕ) → class_members d k ≡ S.members k
  pub records : (k : ℕ) → S.record_name k ≡ d.first_record + k

-- ---- What a body sees

pub record Visible : Type 0 where
  pub is_main : Bool
  pub variables : List Bound
  pub records : List Bound

abbrev pub visible : List Link → Environment → Visible
visible links e = record { is_main = e.is_main; variables = bounds links e.variables.innermost; records = bounds links e.records.innermost }

-- a closed function, if the variable is bound to one
abbrev pub static_of : Option Decision → Operand
static_of None = operand.Literal (pos 0)
static_of (Some f) = operand.Static (static.Function f.label)

-- what isn't bound in a function's body is a closed function
abbrev pub unbound : Decisions → Bool → Places
unbound d true = nowhere
unbound d false = λ x. static_of (decided d x)

abbrev pub places_in : Decisions → Visible → Places
places_in d v = places_of (unbound d v.is_main) v.variables

abbrev pub hand_in : Visible → Hand
hand_in v = hand_of none_at_hand v.records
