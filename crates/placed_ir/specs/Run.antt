-- Runs of the machine.
use Rattle.std.specs.Prelude.{ℕ, pos, List, [], ◌∷◌, ◌++◌, Option, Some, None, slice_get}
use Rattle.smlc_base.specs.declared.point.Point.{Point}
use Rattle.simulation.specs.Runs as runs
use Rattle.simulation.specs.Machines.{run_from}
use Rattle.simulation.specs.Stores.{StoreMachine, Configuration, machine_of}
use Rattle.sml_def.specs.Run.{eq_point}
use Rattle.closure_ir.specs.Words.{Num, Cells}
use Rattle.closure_ir.specs.Run.{pointed, all_pointed, exn_name, spelling}
use Rattle.placed_ir.specs.Code.{Halt, Tree}
use Rattle.placed_ir.specs.Arena.{Slot, held_at, view_slot, arrived}
use Rattle.placed_ir.specs.Step.{Doing, Running, Arriving, Comparing, Failed, Facing, step}

-- the point that a state passes
abbrev pub passes : List Point → Doing → Option Point
passes points (Arriving l ws h) = slice_get points l
passes points (Comparing t ws k h) = Some eq_point
passes points _ = None

-- At an entry the closure, the arguments and the handler. The spill record of the body that was left isn't among them.
abbrev pub roots : Doing → List ℕ
roots (Arriving l ws h) = pointed h ++ all_pointed ws
roots (Comparing t ws k h) = pointed h ++ all_pointed (k ∷ ws)
roots _ = []

abbrev pub end_of : List (List ℕ) → Cells → Doing → runs.End
end_of exns cells (Running Halt r) = runs.Normal
end_of exns cells (Failed w) = runs.Uncaught (spelling exns cells (exn_name cells w))
end_of exns cells _ = runs.Stuck

abbrev pub placed_machine : Tree → StoreMachine Facing Slot
placed_machine p = record {
  act = λ f slots. step p (record { slots = slots; input = f.input }) f.doing;
  end = λ f slots. end_of p.exns (held_at slots) f.doing;
  pass = λ f slots. passes p.points f.doing;
  roots = λ f slots. roots f.doing;
  view = view_slot p.points;
}

abbrev pub PlacedState : Type 0
PlacedState = Configuration Facing Slot

-- no register holds anything yet but that of the handler, which holds a number
abbrev pub start_placed : Tree → List ℕ → PlacedState
start_placed p input = record { control = record { doing = Running p.main (arrived [] (Num (pos 0))); input = input }; out = []; store = [] }

abbrev pub placed_run : Tree → List ℕ → runs.Run
placed_run p input = run_from (machine_of (placed_machine p)) p.points (start_placed p input)
