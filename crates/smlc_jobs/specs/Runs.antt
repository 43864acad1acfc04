-- Runs of an image, and what is counted of the outside.
use Rattle.std.specs.Prelude.{ℕ, ◌≡◌, ◌≤◌, ◌<◌, List, [], Option}
use Rattle.smlc_edge.specs.Edge.{Gains}
use Rattle.elf_static.specs.declared.image.Image.{Image}
use Rattle.rv_machine.specs.Load.{loaded}
use Rattle.rv_machine.specs.State.{reg}
use Rattle.rv_machine.specs.Run.{World, Cut, Mend, Runs, Exited, Knows, behaviour}

-- ---- counts of faults

-- how often store, input, out and err failed
pub record Tally : Type 0 where
  pub store : ℕ
  pub input : ℕ
  pub out : ℕ
  pub err : ℕ

abbrev pub tally : ℕ → ℕ → ℕ → ℕ → Tally
tally store input out err = record { store = store; input = input; out = out; err = err }

-- no count moved
pub record IsSame (before now : Tally) : Type 0 where
  pub store : now.store ≡ before.store
  pub input : now.input ≡ before.input
  pub out : now.out ≡ before.out
  pub err : now.err ≡ before.err

-- ---- input

-- what the input tells before a job, and what it tells after it
pub record Intake : Type 0 where
  pub before : Option (List ℕ)
  pub left : Option (List ℕ)

abbrev pub intake : Option (List ℕ) → Option (List ℕ) → Intake
intake before left = record { before = before; left = left }

-- the job took nothing of it
abbrev pub TakesNothing : Intake → Type 0
TakesNothing input = Knows input.before input.left

-- ---- runs

abbrev pub begun : Image → Option (List ℕ) → World
begun image input = record { state = loaded image; input = input; out = []; err = [] }

-- so many instructions of the image were done at the most, and all of them where it goes on; it has written this, and the input has left what it didn't take
pub record IsRun (image : Image) (input : Intake) (steps : ℕ) (mend : Mend) (out err : List ℕ) : Type 0 where
  pub count : ℕ
  pub within : count ≤ steps
  pub all : mend ≡ Runs → count ≡ steps
  pub cuts : List Cut
  pub ends : (behaviour count (begun image input.before) cuts).mend ≡ mend
  pub wrote : (behaviour count (begun image input.before) cuts).world.out ≡ out
  pub wrote_err : (behaviour count (begun image input.before) cuts).world.err ≡ err
  pub left : Knows (behaviour count (begun image input.before) cuts).world.input input.left

-- the program exited, with these numbers in x11 and x12
pub record IsExit (image : Image) (input : Intake) (steps status x11 x12 : ℕ) (out err : List ℕ) : Type 0 where
  pub run : IsRun image input steps (Exited status) out err
  pub in_x11 : reg (behaviour run.count (begun image input.before) run.cuts).world.state 11 ≡ x11
  pub in_x12 : reg (behaviour run.count (begun image input.before) run.cuts).world.state 12 ≡ x12

-- fewer instructions were done, it goes on, and has written this, and the input has left what it didn't take
pub record IsMidway (image : Image) (input : Intake) (steps : ℕ) (out err : List ℕ) : Type 0 where
  pub count : ℕ
  pub fewer : count < steps
  pub cuts : List Cut
  pub goes_on : (behaviour count (begun image input.before) cuts).mend ≡ Runs
  pub wrote : (behaviour count (begun image input.before) cuts).world.out ≡ out
  pub wrote_err : (behaviour count (begun image input.before) cuts).world.err ≡ err
  pub left : Knows (behaviour count (begun image input.before) cuts).world.input input.left

-- ---- calls

-- what was written on out and err, and what is said of it
pub record Came (out out_now err err_now : Option (List ℕ)) (Says : List ℕ → List ℕ → Type 0) : Type 0 where
  pub wrote : List ℕ
  pub wrote_err : List ℕ
  pub gains : Gains out out_now wrote
  pub gains_err : Gains err err_now wrote_err
  pub says : Says wrote wrote_err
