-- Runs of the machine of `Lambda`.
use Rattle.std.specs.Prelude.{ℕ, ◌+◌, List, [], ◌∷◌, ◌++◌, Option, Some, None, length, map, slice_get}
use Rattle.smlc_base.specs.declared.point.Point.{Point}
use Rattle.smlc_base.specs.declared.point.PointKind.TheVariants as kind
use Rattle.sml_tree.specs.Points.{point}
use Rattle.simulation.specs.Blocks as sim
use Rattle.simulation.specs.Runs.{Run}
use Rattle.simulation.specs.Machines.{run_from}
use Rattle.simulation.specs.Stores.{StoreMachine, Configuration, machine_of}
use Rattle.sml_def.specs.State.{At, Address, Control, Eval, Ret, Apply, Raise, Eq, Focus}
use Rattle.sml_def.specs.Run.{of_value, of_next, of_values, of_env, of_control, end_of, eq_point, view}
use Rattle.lambda_ir.specs.Program.{Lambda}
use Rattle.lambda_ir.specs.State.{Waits, FunctionOf, ArgumentOf, PartOf, SubjectOf, RightOf, RaiseOf, GuardOf, Item, Plain, Code, Held}
use Rattle.lambda_ir.specs.Step.{Store, Goes, step_term}
use Rattle.lambda_ir.specs.Proper.{proper_step}

abbrev pub of_waits : Waits → List Address
of_waits (FunctionOf f a env) = of_env env
of_waits (ArgumentOf a f) = of_value f
of_waits (PartOf e parts before later env) = of_values before ++ of_env env
of_waits (SubjectOf e cases env) = of_env env
of_waits (RightOf b later body env) = of_env env
of_waits (RaiseOf e) = []
of_waits (GuardOf i cases env) = of_env env

-- how many values a frame holds
abbrev pub held_by : Waits → ℕ
held_by (FunctionOf f a env) = length env
held_by (ArgumentOf a f) = 1
held_by (PartOf e parts before later env) = length before + length env
held_by (SubjectOf e cases env) = length env
held_by (RightOf b later body env) = length env
held_by (RaiseOf e) = 0
held_by (GuardOf i cases env) = length env

abbrev pub waits_points : Waits → List Point
waits_points (FunctionOf f a env) = point f kind.Ret ∷ []
waits_points (ArgumentOf a f) = point a kind.Ret ∷ []
waits_points (PartOf e parts before later env) = point e kind.Ret ∷ []
waits_points (SubjectOf e cases env) = point e kind.Ret ∷ []
waits_points (RightOf b later body env) = point b.right kind.Ret ∷ []
waits_points (RaiseOf e) = point e kind.Ret ∷ []
waits_points (GuardOf i cases env) = point i kind.Caught ∷ point i kind.Popped ∷ []

-- what an item is seen as, in source words
abbrev pub view_item : Item → sim.Block
view_item (Plain b) = view b
view_item (Code i cases env) = record { kind = sim.Closure (point i kind.Fn); words = 1 + length env; fields = of_env env }
view_item (Held w next) = record { kind = sim.Frame (waits_points w); words = 2 + held_by w; fields = of_waits w ++ of_next next }

abbrev pub entered_item : Option Item → Option Point
entered_item (Some (Code i cases env)) = Some (point i kind.Fn)
entered_item _ = None

abbrev pub returned_by : Waits → Option Point
returned_by (FunctionOf f a env) = Some (point f kind.Ret)
returned_by (ArgumentOf a f) = Some (point a kind.Ret)
returned_by (PartOf e parts before later env) = Some (point e kind.Ret)
returned_by (SubjectOf e cases env) = Some (point e kind.Ret)
returned_by (RightOf b later body env) = Some (point b.right kind.Ret)
returned_by (RaiseOf e) = Some (point e kind.Ret)
returned_by (GuardOf i cases env) = Some (point i kind.Popped)

abbrev pub returned_item : Option Item → Option Point
returned_item (Some (Held w next)) = returned_by w
returned_item _ = None

abbrev pub caught_item : Option Item → Option Point
caught_item (Some (Held (GuardOf i cases env) next)) = Some (point i kind.Caught)
caught_item _ = None

-- the point that a state passes
abbrev pub passes_item : List Item → Control → Option Point
passes_item items (Apply (At a) v k) = entered_item (slice_get items a)
passes_item items (Ret v (Some a)) = returned_item (slice_get items a)
passes_item items (Raise x (Some a)) = caught_item (slice_get items a)
passes_item items (Eq pairs t k) = Some eq_point
passes_item items _ = None

-- a machine with these steps
abbrev pub machine_by : (Store → Control → Goes) → StoreMachine Focus Item
machine_by step = record {
  act = λ f items. step (record { items = items; input = f.input }) f.control;
  end = λ f items. end_of f.control;
  pass = λ f items. passes_item items f.control;
  roots = λ f items. of_control f.control;
  view = view_item;
}

abbrev pub lambda_machine : Lambda → StoreMachine Focus Item
lambda_machine l = machine_by (proper_step l)

-- the same, with a step in each state that has one, proper or not
abbrev pub loose_machine : Lambda → StoreMachine Focus Item
loose_machine l = machine_by (step_term l)

abbrev pub LambdaState : Type 0
LambdaState = Configuration Focus Item

abbrev pub start_lambda : List ℕ → LambdaState
start_lambda input = record { control = record { control = Eval 0 [] None; input = input }; out = []; store = [] }

-- the points that the program's sites name
abbrev pub lambda_points : Lambda → List Point
lambda_points l = map (λ s. s.point) l.sites

abbrev pub lambda_run : Lambda → List ℕ → Run
lambda_run l input = run_from (machine_of (lambda_machine l)) (lambda_points l) (start_lambda input)

abbrev pub loose_run : Lambda → List ℕ → Run
loose_run l input = run_from (machine_of (loose_machine l)) (lambda_points l) (start_lambda input)
