-- Runs of the machine.
use Rattle.std.specs.Prelude.{ℕ, ◌+◌, List, [], ◌∷◌, ◌++◌, Option, Some, None, length, flat_map, slice_get}
use Rattle.smlc_base.specs.declared.point.Point.{Point}
use Rattle.sml_tree.specs.Sets.{without}
use Rattle.simulation.specs.Blocks as sim
use Rattle.simulation.specs.Runs as runs
use Rattle.simulation.specs.Machines.{run_from}
use Rattle.simulation.specs.Stores.{StoreMachine, Configuration, machine_of}
use Rattle.sml_def.specs.State.{Nothing, At, Address, Normal, Uncaught}
use Rattle.sml_def.specs.Run.{of_value, of_values, of_next, eq_point, view}
use Rattle.cps_ir.specs.Code.{Code, Tree}
use Rattle.cps_ir.specs.Free.{free_code, labels}
use Rattle.cps_ir.specs.State.{Vars, Piece, Plain, Fun, Doing, Run, Enter, Raising, Compare, Ended, Facing}
use Rattle.cps_ir.specs.Step.{step}

-- the addresses that variables name
abbrev pub of_vars : Vars → List ℕ → List Address
of_vars env xs = flat_map (λ x. of_value (env x)) xs

-- what a piece is seen as: a function holds its free variables
abbrev pub view_piece : Piece → sim.Block
view_piece (Plain b) = view b
view_piece (Fun p params body env) = record { kind = sim.Closure p; words = 1 + length (without (free_code body) params); fields = of_vars env (without (free_code body) params) }

abbrev pub entered_piece : Option Piece → Option Point
entered_piece (Some (Fun p params body env)) = Some p
entered_piece _ = None

-- the point that a state passes
abbrev pub passes_piece : List Piece → Doing → Option Point
passes_piece pieces (Enter (At a) vs h) = entered_piece (slice_get pieces a)
passes_piece pieces (Raising x (At a)) = entered_piece (slice_get pieces a)
passes_piece pieces (Compare pairs t k h) = Some eq_point
passes_piece pieces _ = None

abbrev pub of_doing : Doing → List Address
of_doing (Run c env h) = of_value h ++ of_vars env (free_code c)
of_doing (Enter u vs h) = of_value h ++ of_value u ++ of_values vs
of_doing (Raising x h) = of_value h ++ of_value x
of_doing (Compare pairs t k h) = of_value h ++ of_next pairs ++ of_value k
of_doing (Ended e) = []

abbrev pub end_of : Doing → runs.End
end_of (Ended Normal) = runs.Normal
end_of (Ended (Uncaught name)) = runs.Uncaught name
end_of _ = runs.Going

abbrev pub cps_machine : Tree → StoreMachine Facing Piece
cps_machine q = record {
  act = λ f pieces. step q (record { pieces = pieces; input = f.input }) f.doing;
  end = λ f pieces. end_of f.doing;
  pass = λ f pieces. passes_piece pieces f.doing;
  roots = λ f pieces. of_doing f.doing;
  view = view_piece;
}

abbrev pub CpsState : Type 0
CpsState = Configuration Facing Piece

-- no variable has a value yet, and the register holds no function
abbrev pub start_cps : Code → List ℕ → CpsState
start_cps c input = record { control = record { doing = Run c (λ x. Nothing) Nothing; input = input }; out = []; store = [] }

abbrev pub cps_run : Tree → List ℕ → runs.Run
cps_run q input = run_from (machine_of (cps_machine q)) (labels q.code) (start_cps q.code input)
