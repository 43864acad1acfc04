-- What the instructions do: a machine with closures and class records. A step makes a record and the closure that names it together.
use Rattle.std.specs.Prelude.{ℕ, suc, List, [], ◌∷◌, length, Option, Some, None}
use Rattle.smlc_base.specs.declared.point.Point.{Point}
use Rattle.simulation.specs.Blocks.{Closure, ClassRecord, Block}
use Rattle.simulation.specs.Runs.{Run, End, Normal, Stuck}
use Rattle.simulation.specs.Machines.{run_from}
use Rattle.simulation.specs.Stores.{Act, StoreMachine, machine_of, tells, makes}
use Rattle.pass_example.specs.declared.Instr.{Instr}
use Rattle.pass_example.specs.declared.Instr.TheVariants.{Emit}
use Rattle.pass_example.specs.Frames.{inner}

pub data Thing : Type 0 where
  -- a class record, that holds the next closure if there is one
  Class : (below : List ℕ) → Thing
  -- a closure, that names its class record
  Code : (class : ℕ) → Thing

abbrev pub thing_block : Thing → Block
thing_block (Class below) = record { kind = ClassRecord; words = 2; fields = below }
thing_block (Code class) = record { kind = Closure inner; words = 2; fields = class ∷ [] }

pub data Running : Type 0 where
  -- the instructions that are left, and the last closure if there is one
  RunOn : (left : List Instr) (top : List ℕ) → Running
  -- the closure is entered
  Enter : (n : ℕ) (left : List Instr) (top : List ℕ) → Running

abbrev pub act_closures : Running → List Thing → Option (Act Running Thing)
act_closures (RunOn [] top) things = None
act_closures (RunOn (Emit n ∷ left) top) things = makes (Enter n left (suc (length things) ∷ [])) (Class top ∷ Code (length things) ∷ [])
act_closures (Enter n left top) things = tells (RunOn left top) (n ∷ [])

abbrev pub end_closures : Running → End
end_closures (RunOn left top) = Normal
end_closures (Enter n left top) = Stuck

abbrev pub pass_closures : Running → Option Point
pass_closures (RunOn left top) = None
pass_closures (Enter n left top) = Some inner

abbrev pub last_of : Running → List ℕ
last_of (RunOn left top) = top
last_of (Enter n left top) = top

abbrev pub closures : StoreMachine Running Thing
closures = record { act = act_closures; end = λ c s. end_closures c; pass = λ c s. pass_closures c; roots = λ c s. last_of c; view = thing_block }

abbrev pub run_instrs : List Instr → Run
run_instrs code = run_from (machine_of closures) (inner ∷ []) (record { control = RunOn code []; out = []; store = [] })
