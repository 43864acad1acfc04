-- States whose every address names a block.
use Rattle.std.specs.Prelude.{ℕ, ◌<◌, List, Option, Some, None, length}
use Rattle.std.specs.List.{AllByRecursion}
use Rattle.sml_tree.specs.declared.bare.Bare.{Bare}
use Rattle.simulation.specs.Machines.{state_at}
use Rattle.simulation.specs.Stores.{machine_of}
use Rattle.sml_def.specs.State.{Value, At, Env, Address, Awaits, FunctionPart, ArgumentPart, FieldPart, Subject, RightSide, RaisePart, Guarded, Block, Tuple, Applied, Text, Cell, ExnName, Packet, Closure, Frame, Pending, Control, Eval, Ret, Apply, Raise, Eq, End}
use Rattle.sml_def.specs.Run.{State, source, start}

-- what is named in a store of n blocks
abbrev pub InStore : ℕ → Value → Type 0
InStore n (At a) = a < n
InStore n _ = Unit {0}

abbrev pub NextIn : ℕ → Option Address → Type 0
NextIn n (Some a) = a < n
NextIn n None = Unit {0}

abbrev pub AllIn : ℕ → List Value → Type 0
AllIn n vs = AllByRecursion (InStore n) vs

abbrev pub EnvIn : ℕ → Env → Type 0
EnvIn n env = AllByRecursion (λ b. InStore n b.1) env

abbrev pub AwaitsIn : ℕ → Awaits → Type 0
AwaitsIn n (FunctionPart f a env) = EnvIn n env
AwaitsIn n (ArgumentPart a f) = InStore n f
AwaitsIn n (FieldPart e fields before later env) = AllIn n before × EnvIn n env
AwaitsIn n (Subject e rules env) = EnvIn n env
AwaitsIn n (RightSide b later body env) = EnvIn n env
AwaitsIn n (RaisePart e) = Unit {0}
AwaitsIn n (Guarded i rules env) = EnvIn n env

abbrev pub BlockIn : ℕ → Block → Type 0
BlockIn n (Tuple fields) = AllIn n fields
BlockIn n (Applied tag v) = InStore n v
BlockIn n (Text bytes) = Unit {0}
BlockIn n (Cell v) = InStore n v
BlockIn n (ExnName x) = Unit {0}
BlockIn n (Packet x v) = InStore n x × InStore n v
BlockIn n (Closure i rules env) = EnvIn n env
BlockIn n (Frame w next) = AwaitsIn n w × NextIn n next
BlockIn n (Pending v w next) = InStore n v × InStore n w × NextIn n next

abbrev pub ControlIn : ℕ → Control → Type 0
ControlIn n (Eval i env k) = EnvIn n env × NextIn n k
ControlIn n (Ret v k) = InStore n v × NextIn n k
ControlIn n (Apply f v k) = InStore n f × InStore n v × NextIn n k
ControlIn n (Raise x k) = InStore n x × NextIn n k
ControlIn n (Eq pairs t k) = NextIn n pairs × NextIn n k
ControlIn n (End e) = Unit {0}

pub record IsClosed (s : State) : Type 0 where
  pub control : ControlIn (length s.store) s.control.control
  pub store : AllByRecursion (BlockIn (length s.store)) s.store

-- in each state of a run each address that is named has a block
abbrev pub NamesNothingLost : Type 0
NamesNothingLost = (p : Bare) (input : List ℕ) (n : ℕ) → IsClosed (state_at (machine_of (source p)) (start input) n)
