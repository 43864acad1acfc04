-- What closing makes of a group of functions, as data.
use Rattle.std.specs.Prelude.{◌≡◌, ℕ, suc, ◌+◌, pos, List, [], ◌∷◌, ◌++◌, map, length, flat_map, cond, Option, Some, None, is_some}
use Rattle.std.specs.List.{AllByRecursion}
use Rattle.cps_ir.specs.Code as cps
use Rattle.cps_ir.specs.Program as opening
use Rattle.cps_ir.specs.declared.body.Function.{Function as Entry}
use Rattle.closure_ir.specs.declared.operand.Operand.{Operand}
use Rattle.closure_ir.specs.declared.operand.Operand.TheVariants as operand
use Rattle.closure_ir.specs.declared.operand.Shape.TheVariants as shape
use Rattle.closure_ir.specs.declared.body.Maker.{Maker}
use Rattle.close_laws.specs.Lower.{Design, Places, Hand, placed, lower, made}
use Rattle.close_scopes.specs.declared.found.Found.{Found}
use Rattle.close_scopes.specs.declared.found.Found.TheVariants as found
use Rattle.close_scopes.specs.declared.scopes.Bound.{Bound}
use Rattle.close_scopes.specs.Scopes.{over}
use Rattle.close_steps.specs.declared.decisions.Decision.{Decision}
use Rattle.close_steps.specs.declared.decisions.Decisions.{Decisions}
use Rattle.close_steps.specs.Visible.{Have, Visible, decided, class_members, places_in, hand_in}

abbrev pub at : ℕ → Found → Bound
at x f = record { key = x; found = f }

-- ---- The functions that have no closure, and those that have one

abbrev pub static_bound : ℕ → Option Decision → List Bound
static_bound x None = []
static_bound x (Some f) = cond f.is_static (at x (found.Static f.label) ∷ []) []

abbrev pub statics_in : Decisions → List Entry → List Bound
statics_in d fs = flat_map (λ f. static_bound f.name (decided d f.name)) fs

abbrev pub kept_name : ℕ → Option Decision → List ℕ
kept_name x None = []
kept_name x (Some f) = cond f.is_static [] (x ∷ [])

abbrev pub kept_in : Decisions → List Entry → List ℕ
kept_in d fs = flat_map (λ f. kept_name f.name (decided d f.name)) fs

-- ---- Records

abbrev pub classes_by : Option Decision → List ℕ
classes_by None = []
classes_by (Some f) = f.classes

abbrev pub needs_in : Decisions → List ℕ → List ℕ
needs_in d xs = flat_map (λ x. classes_by (decided d x)) xs

-- with these classes at hand
abbrev pub noted : Hand → List ℕ → Hand
noted hand [] = hand
noted hand (k ∷ ks) = noted (placed hand k (Some (operand.New 0))) ks

-- those of classes that aren't at hand, each once
abbrev pub missing : Hand → List ℕ → List ℕ
missing hand [] = []
missing hand (k ∷ ks) = cond (is_some (hand k)) (missing hand ks) (k ∷ missing (placed hand k (Some (operand.New 0))) ks)

abbrev pub if_missing : Hand → ℕ → List ℕ
if_missing hand k = cond (is_some (hand k)) [] (k ∷ [])

-- blocks of the group that is being made, from number n on
abbrev pub news_from : ℕ → List ℕ → List Bound
news_from n [] = []
news_from n (x ∷ xs) = at x (found.New n) ∷ news_from (suc n) xs

abbrev pub themselves : List ℕ → List Bound
themselves xs = map (λ x. at x (found.Here x)) xs

abbrev pub records_at : ℕ → List ℕ → List Bound
records_at first ks = map (λ k. at k (found.Here (first + k))) ks

-- ---- Blocks

abbrev pub record_in : Decisions → Places → ℕ → Maker
record_in d places k = record { var = d.first_record + k; shape = shape.ClassRecord k; fields = map places (class_members d k) }

-- each record is at hand that a closure names
abbrev pub pointed : Option Operand → Operand
pointed None = operand.Literal (pos 0)
pointed (Some o) = o

abbrev pub code_by : Decision → List Operand
code_by f = cond f.has_code (operand.Code f.label ∷ []) []

abbrev pub fields_by : Places → Hand → Decision → List Operand
fields_by places hand f = code_by f ++ (map (λ k. pointed (hand k)) f.classes ++ map places f.own)

abbrev pub closure_by : Places → Hand → ℕ → Option Decision → List Maker
closure_by places hand x None = []
closure_by places hand x (Some f) = record { var = x; shape = shape.Closure f.label; fields = fields_by places hand f } ∷ []

abbrev pub closures_in : Decisions → Places → Hand → List ℕ → List Maker
closures_in d places hand xs = flat_map (λ x. closure_by places hand x (decided d x)) xs

-- ---- A group

-- with these variables and records more, the first outermost
abbrev pub seen_with : Visible → List Bound → List Bound → Visible
seen_with v variables records = record { is_main = v.is_main; variables = over variables v.variables; records = over records v.records }

module _ (d : Decisions) (v : Visible) (fs : List Entry) where
  abbrev pub group_news : List ℕ
  group_news = missing (hand_in v) (needs_in d (kept_in d fs))

  abbrev pub with_statics : Visible
  with_statics = seen_with v (statics_in d fs) []

  -- while it is made
  abbrev pub within : Visible
  within = seen_with with_statics (news_from (length group_news) (kept_in d fs)) (news_from 0 group_news)

  abbrev pub behind : Visible
  behind = seen_with with_statics (themselves (kept_in d fs)) (records_at d.first_record group_news)

  abbrev pub makers_in : List Maker
  makers_in = map (record_in d (places_in d v)) group_news ++ closures_in d (places_in d within) (hand_in within) (kept_in d fs)

-- its functions are bound by their names
abbrev pub AreBound : Design → List Entry → Type 0
AreBound S fs = AllByRecursion (λ f. S.known f.name ≡ Some f.point) fs

abbrev pub GroupsAreLowered : Type 0
GroupsAreLowered =
    (S : Design) (d : Decisions) → Have S d → (v : Visible) (part : ℕ → cps.Code) (fs : List Entry) (c : cps.Code)
    → AreBound S fs
    → lower S (places_in d v) (hand_in v) (cps.Fix (opening.functions_of part fs) c)
    ≡ made S (makers_in d v fs) (lower S (places_in d (behind d v fs)) (hand_in (behind d v fs)) c)
