-- Runs with input and output.
use Rattle.std.specs.Prelude.{ℕ, zero, suc, ◌≡◌, ◌+◌, ◌≤◌, min, max, List, [], ◌∷◌, ◌++◌, ◌<◌, ◌⊎◌, length, take, drop, slice_range, Option, Some, None, is_some, Result, Ok, Err, ◌==◌, if◌then◌else◌}
use Rattle.smlc_edge.specs.declared.edge.Failed.{Failed}
use Rattle.smlc_edge.specs.Edge.{Gains, Fails}
use Rattle.rv_machine.specs.declared.hart.Next.{Next}
use Rattle.rv_machine.specs.declared.hart.Next.TheVariants.{Going, Exit, Trap, Read, Write}
use Rattle.rv_machine.specs.declared.hart.End.{End}
use Rattle.rv_machine.specs.declared.hart.End.TheVariants as ended
use Rattle.rv_machine.specs.State.{State, overwritten}
use Rattle.rv_machine.specs.Step.{step_of, writes, word_here}

-- ---- the definition

-- A machine, the input that is left, where it is told, and what the run has written so far.
pub record World : Type 0 where
  pub state : State
  pub input : Option (List ℕ)
  pub out : List ℕ
  pub err : List ℕ

-- What the outside answers to one read or write: how many bytes moved.
-- A read of an input that isn't told also leaves some bytes in the range; of both it is as much as the range has that counts.
pub record Cut : Type 0 where
  pub count : ℕ
  pub range : List ℕ

-- how many bytes move: as the first cut says, at least 1 and at most the limit
abbrev pub moved : List Cut → ℕ → ℕ
moved [] limit = limit
moved (c ∷ cs) limit = min limit (max 1 c.count)

abbrev pub later : List Cut → List Cut
later [] = []
later (c ∷ cs) = cs

pub data Mend : Type 0 where
  Runs : Mend
  Exited : ℕ → Mend
  Trapped : ℕ → ℕ → Mend

pub record Turn : Type 0 where
  pub mend : Mend
  pub world : World
  pub cuts : List Cut

-- n bytes came into memory, and the call is done
abbrev pub with_read : ℕ → ℕ → List ℕ → State → State
with_read at n piece s = (writes 10 n (record s { bytes = overwritten at piece s.bytes })).1

-- the read of a range: the state and the input after it
abbrev pub read_of : ℕ → ℕ → List Cut → Option (List ℕ) → State → State × Option (List ℕ)
read_of at size cuts (Some bytes) s = let n = moved cuts (min size (length bytes)) in (with_read at n (take n bytes) s, Some (drop n bytes))
read_of at size (c ∷ cs) None s = (with_read at (min size c.count) (take size c.range) s, None)
read_of at size [] None s = (with_read at 0 [] s, None)

abbrev pub with_piece : ℕ → List ℕ → World → World
with_piece to piece w = if to == 1 then record w { out = w.out ++ piece } else record w { err = w.err ++ piece }

-- the write of the first n bytes of a range
abbrev pub after_write : ℕ → ℕ → ℕ → World → World
after_write to at n w = record (with_piece to (slice_range w.state.bytes at (at + n)) w) { state = (writes 10 n w.state).1 }

abbrev pub turned : Next → State → World → List Cut → Turn
turned Going s w cuts = record { mend = Runs; world = record w { state = s }; cuts = cuts }
turned (Exit n) s w cuts = record { mend = Exited n; world = w; cuts = cuts }
turned Trap s w cuts = record { mend = Trapped w.state.pc (word_here w.state); world = w; cuts = cuts }
turned (Read at size) s w cuts = let r = read_of at size cuts w.input w.state in record { mend = Runs; world = record w { state = r.0; input = r.1 }; cuts = later cuts }
turned (Write to at size) s w cuts = record { mend = Runs; world = after_write to at (moved cuts size) w; cuts = later cuts }

abbrev pub turn : World → List Cut → Turn
turn w cuts = let o = step_of w.state in turned o.0 o.1 w cuts

abbrev pub proceeds : Mend → Turn → Turn → Turn
proceeds Runs t rest = rest
proceeds _ t rest = t

-- The machine after n instructions. It has trapped where a state without a step comes before the n-th is done.
unfoldable pub behaviour : ℕ → World → List Cut → Turn
behaviour zero w cuts = record { mend = Runs; world = w; cuts = cuts }
behaviour (suc n) w cuts = let t = turn w cuts in proceeds t.mend t (behaviour n t.world t.cuts)

-- ---- what a running call does

-- what is known of an input's bytes is what it tells
abbrev pub Knows : Option (List ℕ) → Option (List ℕ) → Type 0
Knows known left = (bytes : List ℕ) → known ≡ Some bytes → left ≡ Some bytes

-- From state s, with what the input tells, n instructions lead to state t, have written o and e, and leave what the input tells then.
-- The cuts are the counts that the objects answered.
pub record Ran (n : ℕ) (s : State) (left left_now : Option (List ℕ)) (mend : Mend) (t : State) (o e : List ℕ) : Type 0 where
  pub cuts : List Cut
  pub known : Option (List ℕ)
  pub knows : Knows known left_now
  pub told : is_some known ≡ is_some left
  pub ran : (more : List Cut) → behaviour n (record { state = s; input = left; out = []; err = [] }) (cuts ++ more)
      ≡ record { mend = mend; world = record { state = t; input = known; out = o; err = e }; cuts = more }

-- how it ended
abbrev pub mend_of : End → Mend
mend_of (ended.Exit n) = Exited n
mend_of (ended.Trap pc word) = Trapped pc word
mend_of _ = Runs

-- Nothing of the state changed, but where the input doesn't tell its bytes: bytes of this range may have.
abbrev pub Scratched : ℕ → ℕ → Option (List ℕ) → State → State → Type 0
Scratched at size (Some bytes) s t = t ≡ s
Scratched at size None s t = (range : List ℕ) × (length range ≤ size) × (t ≡ record s { bytes = overwritten at range s.bytes })

-- the state that was reached stands, but for the range of a read that failed, which is the one that its next step asks for
abbrev pub Stands : Option End → Option (List ℕ) → State → State → Type 0
Stands (Some ended.ReadFault) left s t = (at : ℕ) × (size : ℕ) × ((step_of s).0 ≡ Read at size) × Scratched at size left s t
Stands _ left s t = t ≡ s

-- A fault stands at the call that was not done: the next step asks for it, and a later run does it again.
abbrev pub Asks : Option End → State → Type 0
Asks (Some ended.ReadFault) s = (at : ℕ) × (size : ℕ) × ((step_of s).0 ≡ Read at size)
Asks (Some ended.WriteFault) s = (to : ℕ) × (at : ℕ) × (size : ℕ) × ((step_of s).0 ≡ Write to at size)
Asks _ s = Unit {0}

abbrev pub IsFault : End → Type 0
IsFault ended.ReadFault = Unit {0}
IsFault ended.WriteFault = Unit {0}
IsFault _ = ⊥

-- A run of at most so many instructions, all of them where the end is Steps and fewer where it is a fault, with what out and err gained.
pub record RunsTo (steps : ℕ) (s t : State) (left left_now out out_now err err_now : Option (List ℕ)) (end : End) : Type 0 where
  pub count : ℕ
  pub within : count ≤ steps
  pub all : end ≡ ended.Steps → count ≡ steps
  pub fewer : IsFault end → count < steps
  pub reached : State
  pub wrote : List ℕ
  pub wrote_err : List ℕ
  pub ran : Ran count s left left_now (mend_of end) reached wrote wrote_err
  pub stands : Stands (Some end) left reached t
  pub asked : Asks (Some end) reached
  pub gains : Gains out out_now wrote
  pub gains_err : Gains err err_now wrote_err

-- The counts of faults of input, out and err: a fault comes only where a count of its kind rose, and no count moves without one.
abbrev pub CountsAt : Option End → ℕ → ℕ → ℕ → ℕ → ℕ → ℕ → Type 0
CountsAt (Some ended.ReadFault) i i' o o' e e' = Fails i i' × (o' ≡ o) × (e' ≡ e)
CountsAt (Some ended.WriteFault) i i' o o' e e' = (i' ≡ i) × ((Fails o o' × (e' ≡ e)) ⊎ ((o' ≡ o) × Fails e e'))
CountsAt _ i i' o o' e e' = (i' ≡ i) × (o' ≡ o) × (e' ≡ e)

-- the end that stays: an exit or a trap
abbrev pub ended_by : End → Option End
ended_by (ended.Exit n) = Some (ended.Exit n)
ended_by (ended.Trap pc word) = Some (ended.Trap pc word)
ended_by _ = None

-- ---- parts of it

-- a read that was served, and a write
abbrev pub ServesRead : Option (List ℕ) → ℕ → ℕ → State → State → Result (Unit {0}) Failed → Option (List ℕ) → Type 0
ServesRead known at size s t (Ok u) left_now = (c : Cut) × (rest : Option (List ℕ)) × ((more : List Cut) → read_of at size (c ∷ more) known s ≡ (t, rest)) × Knows rest left_now
ServesRead known at size s t (Err e) left_now = Scratched at size known s t × Knows known left_now

abbrev pub ServesWrite : ℕ → ℕ → State → State → Result (Unit {0}) Failed → Option (List ℕ) → Option (List ℕ) → Type 0
ServesWrite at size s t (Ok u) taken taken_now = (n : ℕ) × (n ≤ size) × (0 < size → 0 < n) × (t ≡ (writes 10 n s).1) × Gains taken taken_now (slice_range s.bytes at (at + n))
ServesWrite at size s t (Err e) taken taken_now = (t ≡ s) × Gains taken taken_now []

-- how many instructions, with that of the end
abbrev pub counted_of : End → ℕ → ℕ
counted_of ended.ReadFault n = n
counted_of ended.WriteFault n = n
counted_of _ n = n + 1

abbrev pub mend_at : Option End → Mend
mend_at None = Runs
mend_at (Some e) = mend_of e

abbrev pub counted_at : Option End → ℕ → ℕ
counted_at None n = n + 1
counted_at (Some e) n = counted_of e n

-- one instruction of a running call
pub record Turns (s t : State) (left left_now out out_now err err_now : Option (List ℕ)) (end : Option End) : Type 0 where
  pub wrote : List ℕ
  pub wrote_err : List ℕ
  pub gains : Gains out out_now wrote
  pub gains_err : Gains err err_now wrote_err
  pub goes_on : (n : ℕ) (begun : State) (first : Option (List ℕ)) (o e : List ℕ) → Ran n begun first left Runs s o e →
      (reached : State) × Ran (counted_at end n) begun first left_now (mend_at end) reached (o ++ wrote) (e ++ wrote_err) × Stands end first reached t × Asks end reached
