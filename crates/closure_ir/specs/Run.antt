-- Runs of the machine.
use Rattle.std.specs.Prelude.{ℕ, suc, pos, List, [], ◌∷◌, ◌++◌, Option, Some, None, flat_map, slice_get, unwrap_or}
use Rattle.smlc_base.specs.declared.point.Point.{Point}
use Rattle.smlc_base.specs.Exceptions.{exn_text}
use Rattle.simulation.specs.Blocks as sim
use Rattle.simulation.specs.Runs as runs
use Rattle.simulation.specs.Machines.{run_from}
use Rattle.simulation.specs.Stores.{StoreMachine, Configuration, machine_of}
use Rattle.sml_def.specs.Run.{eq_point}
use Rattle.closure_ir.specs.declared.operand.Static.TheVariants as static
use Rattle.closure_ir.specs.declared.operand.Shape.TheVariants as shape
use Rattle.closure_ir.specs.Words.{Word, Num, At, Fixed, Sort, Made, Cell, Cells, cell_length}
use Rattle.closure_ir.specs.Code.{Halt, Tree}
use Rattle.closure_ir.specs.Answers.{name_number}
use Rattle.closure_ir.specs.Step.{Doing, Running, Arriving, Comparing, Failed, Facing, unbound, step}

-- the addresses that words name
abbrev pub pointed : Word → List ℕ
pointed (At a) = a ∷ []
pointed _ = []

abbrev pub all_pointed : List Word → List ℕ
all_pointed ws = flat_map pointed ws

-- ---- What a cell is seen as

-- a closure of a label without a point would be a frame of none
abbrev pub closure_kind : Option Point → sim.Kind
closure_kind None = sim.Frame []
closure_kind (Some p) = sim.Closure p

abbrev pub sort_kind : List Point → Sort → sim.Kind
sort_kind points (Made (shape.ClassRecord k)) = sim.ClassRecord
sort_kind points (Made (shape.Closure l)) = closure_kind (slice_get points l.0)
sort_kind points _ = sim.Datum

abbrev pub view_cell : List Point → Cell → sim.Block
view_cell points c = record { kind = sort_kind points c.sort; words = suc (cell_length c); fields = all_pointed c.fields }

-- ---- What is seen of a state

-- the point that a state passes
abbrev pub passes : List Point → Doing → Option Point
passes points (Arriving l ws h) = slice_get points l
passes points (Comparing t ws k h) = Some eq_point
passes points _ = None

-- at an entry the closure, the arguments and the handler; while a body runs nothing is asked
abbrev pub roots : Doing → List ℕ
roots (Arriving l ws h) = pointed h ++ all_pointed ws
roots (Comparing t ws k h) = pointed h ++ all_pointed (k ∷ ws)
roots _ = []

-- a packet has its name in front, and a name alone is one
abbrev pub name_by : Word → Sort → List Word → Word
name_by w (Made shape.Packet) (x ∷ v ∷ []) = x
name_by w sort fields = w

abbrev pub name_of : Word → Option Cell → Word
name_of w None = w
name_of w (Some c) = name_by w c.sort c.fields

abbrev pub exn_name : Cells → Word → Word
exn_name cells (At a) = name_of (At a) (cells a)
exn_name cells w = w

abbrev pub spelled : List (List ℕ) → Option ℕ → List ℕ
spelled exns None = []
spelled exns (Some n) = unwrap_or (slice_get exns n) []

abbrev pub spelling : List (List ℕ) → Cells → Word → List ℕ
spelling exns cells (At a) = spelled exns (name_number (cells a))
spelling exns cells (Fixed (static.Library e)) = exn_text e
spelling exns cells _ = []

abbrev pub end_of : List (List ℕ) → Cells → Doing → runs.End
end_of exns cells (Running Halt env h) = runs.Normal
end_of exns cells (Failed w) = runs.Uncaught (spelling exns cells (exn_name cells w))
end_of exns cells _ = runs.Stuck

abbrev pub closed_machine : Tree → StoreMachine Facing Cell
closed_machine p = record {
  act = λ f cells. step p (record { cells = cells; input = f.input }) f.doing;
  end = λ f cells. end_of p.exns (slice_get cells) f.doing;
  pass = λ f cells. passes p.points f.doing;
  roots = λ f cells. roots f.doing;
  view = view_cell p.points;
}

abbrev pub ClosedState : Type 0
ClosedState = Configuration Facing Cell

-- no variable holds anything yet, and the register holds a number
abbrev pub start_closed : Tree → List ℕ → ClosedState
start_closed p input = record { control = record { doing = Running p.main unbound (Num (pos 0)); input = input }; out = []; store = [] }

abbrev pub closed_run : Tree → List ℕ → runs.Run
closed_run p input = run_from (machine_of (closed_machine p)) p.points (start_closed p input)
