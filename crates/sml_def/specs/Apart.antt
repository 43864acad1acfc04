-- States whose values name no frame: frames are named by frames and by the control alone.
use Rattle.std.specs.Prelude.{◌≡◌, ℕ, Bool, true, false, List, Option, Some, None, map, slice_get}
use Rattle.std.specs.List.{AllByRecursion}
use Rattle.sml_tree.specs.declared.bare.Bare.{Bare}
use Rattle.simulation.specs.Machines.{state_at}
use Rattle.simulation.specs.Stores.{machine_of}
use Rattle.sml_def.specs.State.{Value, At, Env, Address, Awaits, FunctionPart, ArgumentPart, FieldPart, Subject, RightSide, RaisePart, Guarded, Block, Tuple, Applied, Text, Cell, ExnName, Packet, Closure, Frame, Pending, Control, Eval, Ret, Apply, Raise, Eq, End}
use Rattle.sml_def.specs.Run.{State, source, start}

abbrev pub is_frame : Block → Bool
is_frame (Frame w next) = true
is_frame (Tuple vs) = false
is_frame (Applied n v) = false
is_frame (Text bytes) = false
is_frame (Cell v) = false
is_frame (ExnName x) = false
is_frame (Packet x v) = false
is_frame (Closure i rules env) = false
is_frame (Pending v w next) = false

-- for each address whether a frame stands there
abbrev pub shape : List Block → List Bool
shape store = map is_frame store

-- a value names no frame
abbrev pub InStore : List Bool → Value → Type 0
InStore n (At a) = slice_get n a ≡ Some false
InStore n _ = Unit {0}

abbrev pub NextIn : List Bool → Option Address → Type 0
NextIn n (Some a) = slice_get n a ≡ Some true
NextIn n None = Unit {0}

abbrev pub PendIn : List Bool → Option Address → Type 0
PendIn n (Some a) = slice_get n a ≡ Some false
PendIn n None = Unit {0}

abbrev pub AllIn : List Bool → List Value → Type 0
AllIn n vs = AllByRecursion (InStore n) vs

abbrev pub EnvIn : List Bool → Env → Type 0
EnvIn n env = AllByRecursion (λ b. InStore n b.1) env

abbrev pub AwaitsIn : List Bool → Awaits → Type 0
AwaitsIn n (FunctionPart f a env) = EnvIn n env
AwaitsIn n (ArgumentPart a f) = InStore n f
AwaitsIn n (FieldPart e fields before later env) = AllIn n before × EnvIn n env
AwaitsIn n (Subject e rules env) = EnvIn n env
AwaitsIn n (RightSide b later body env) = EnvIn n env
AwaitsIn n (RaisePart e) = Unit {0}
AwaitsIn n (Guarded i rules env) = EnvIn n env

abbrev pub BlockIn : List Bool → Block → Type 0
BlockIn n (Tuple fields) = AllIn n fields
BlockIn n (Applied tag v) = InStore n v
BlockIn n (Text bytes) = Unit {0}
BlockIn n (Cell v) = InStore n v
BlockIn n (ExnName x) = Unit {0}
BlockIn n (Packet x v) = InStore n x × InStore n v
BlockIn n (Closure i rules env) = EnvIn n env
BlockIn n (Frame w next) = AwaitsIn n w × NextIn n next
BlockIn n (Pending v w next) = InStore n v × InStore n w × PendIn n next

abbrev pub ControlIn : List Bool → Control → Type 0
ControlIn n (Eval i env k) = EnvIn n env × NextIn n k
ControlIn n (Ret v k) = InStore n v × NextIn n k
ControlIn n (Apply f v k) = InStore n f × InStore n v × NextIn n k
ControlIn n (Raise x k) = InStore n x × NextIn n k
ControlIn n (Eq pairs t k) = PendIn n pairs × NextIn n k
ControlIn n (End e) = Unit {0}

pub record IsApart (s : State) : Type 0 where
  pub control : ControlIn (shape s.store) s.control.control
  pub store : AllByRecursion (BlockIn (shape s.store)) s.store

-- in each state of a run values name no frame, and what awaits is a frame
abbrev pub ValuesNameNoFrames : Type 0
ValuesNameNoFrames = (p : Bare) (input : List ℕ) (n : ℕ) → IsApart (state_at (machine_of (source p)) (start input) n)
