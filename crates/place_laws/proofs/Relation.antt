-- The relation between states of the closed machine and of the placed one.
use Rattle.std.proofs.Common.{Bool, ◌≡◌, ℕ, zero, suc, List, Option, None, inl}
use Rattle.simulation.specs.Machines.{Machine}
use Rattle.simulation.specs.Stores.{machine_of}
use Rattle.simulation.proofs.Machines.{Unseen}
use Rattle.closure_ir.specs.Words.{Word, Cell, Vars}
use Rattle.closure_ir.specs.Code as closed
use Rattle.closure_ir.specs.Step as near
use Rattle.closure_ir.specs.Run.{ClosedState, closed_machine}
use Rattle.placed_ir.specs.Code as placed
use Rattle.placed_ir.specs.Program.{framed}
use Rattle.placed_ir.specs.Arena.{Slot, Registers}
use Rattle.placed_ir.specs.Step as far
use Rattle.placed_ir.specs.Run.{PlacedState, placed_machine}
use Rattle.place_laws.specs.Live.{live}
use Rattle.place_laws.specs.Place.{Places, place_code, place_program, spills}
use Rattle.place_laws.specs.Lies.{Same, SameAll, Heap}
use Rattle.place_laws.proofs.Reading.{Fits}
use Rattle.place_laws.proofs.Writing.{FrameFits}

abbrev pub near_at : near.Doing → List ℕ → List ℕ → List Cell → ClosedState
near_at d input out cells = record { control = record { doing = d; input = input }; out = out; store = cells }

abbrev pub far_at : far.Doing → List ℕ → List ℕ → List Slot → PlacedState
far_at d input out slots = record { control = record { doing = d; input = input }; out = out; store = slots }

abbrev pub A : closed.Tree → Machine ClosedState
A p = machine_of (closed_machine p)

abbrev pub B : closed.Tree → Machine PlacedState
B p = machine_of (placed_machine (place_program p))

-- the forms at the head of a body that may have no form in the placed one: where nothing reads what they bind
abbrev pub waits : closed.Code → ℕ
waits (closed.Let x o c) = suc (waits c)
waits (closed.Handler x c) = suc (waits c)
waits _ = 0

-- Both have written the same and have the same input, the blocks lie in the arena, and what each living variable holds stands in its home.
pub data Related : ℕ → ClosedState → PlacedState → Type 0 where
  running : (c : closed.Code) (env : Vars) (h : Word) (at : Places) (r : Registers) (input out homes : List ℕ) (cells : List Cell) (slots : List Slot) → Heap homes cells slots → Fits homes slots r env at (live c) → Same homes h r.handler → FrameFits slots r.frame (spills (place_code at c)) → Related (waits c) (near_at (near.Running c env h) input out cells) (far_at (far.Running (place_code at c) r) input out slots)
  -- the spill record isn't made yet
  starting : (n : ℕ) (c : closed.Code) (env : Vars) (h : Word) (at : Places) (r : Registers) (input out homes : List ℕ) (cells : List Cell) (slots : List Slot) → Heap homes cells slots → Fits homes slots r env at (live c) → Same homes h r.handler → r.frame ≡ None → spills (place_code at c) ≡ suc n → Related (waits c) (near_at (near.Running c env h) input out cells) (far_at (far.Running (placed.Frame (suc n) (place_code at c)) r) input out slots)
  arriving : (l : ℕ) (us vs : List Word) (h k : Word) (input out homes : List ℕ) (cells : List Cell) (slots : List Slot) → Heap homes cells slots → SameAll homes us vs → Same homes h k → Related 0 (near_at (near.Arriving l us h) input out cells) (far_at (far.Arriving l vs k) input out slots)
  comparing : (t : Bool) (us vs : List Word) (k l h g : Word) (input out homes : List ℕ) (cells : List Cell) (slots : List Slot) → Heap homes cells slots → SameAll homes us vs → Same homes k l → Same homes h g → Related 0 (near_at (near.Comparing t us k h) input out cells) (far_at (far.Comparing t vs l g) input out slots)
  failed : (u v : Word) (input out homes : List ℕ) (cells : List Cell) (slots : List Slot) → Heap homes cells slots → Same homes u v → Related 0 (near_at (near.Failed u) input out cells) (far_at (far.Failed v) input out slots)

-- a body begins, with its spill record or without
pub begins : (n : ℕ) (c : closed.Code) (env : Vars) (h : Word) (at : Places) (r : Registers) (input out homes : List ℕ) (cells : List Cell) (slots : List Slot) → Heap homes cells slots → Fits homes slots r env at (live c) → Same homes h r.handler → r.frame ≡ None → spills (place_code at c) ≡ n → Related (waits c) (near_at (near.Running c env h) input out cells) (far_at (far.Running (framed n (place_code at c)) r) input out slots)
begins zero c env h at r input out homes cells slots hp f s z e = running c env h at r input out homes cells slots hp f s (inl e)
begins (suc n) c env h at r input out homes cells slots hp f s z e = starting n c env h at r input out homes cells slots hp f s z e

abbrev pub Quiet : closed.Tree → PlacedState → Type 0
Quiet p = Unseen (B p) p.points
