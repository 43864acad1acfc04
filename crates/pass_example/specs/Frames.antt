-- What the operations do: a machine with frames.
use Rattle.std.specs.Prelude.{ℕ, List, [], ◌∷◌, length, Option, Some, None}
use Rattle.smlc_base.specs.declared.point.Point.{Point}
use Rattle.smlc_base.specs.declared.point.PointKind.TheVariants.{Ret}
use Rattle.simulation.specs.Blocks.{Frame, Block}
use Rattle.simulation.specs.Runs.{Run, End, Normal, Stuck}
use Rattle.simulation.specs.Machines.{run_from}
use Rattle.simulation.specs.Stores.{Act, StoreMachine, machine_of, goes, tells, makes}
use Rattle.pass_example.specs.declared.Op.{Op}
use Rattle.pass_example.specs.declared.Op.TheVariants.{Say, Skip}

abbrev pub outer : Point
outer = record { node = 0; kind = Ret }

abbrev pub inner : Point
inner = record { node = 1; kind = Ret }

-- a frame, and the next frame if there is one
pub record Held : Type 0 where
  pub point : Point
  pub below : List ℕ

abbrev pub held : Point → List ℕ → Held
held p below = record { point = p; below = below }

abbrev pub held_block : Held → Block
held_block h = record { kind = Frame (h.point ∷ []); words = 2; fields = h.below }

pub data Doing : Type 0 where
  -- the operations that are left, and the top frame if there is one
  Do : (left : List Op) (top : List ℕ) → Doing
  -- the outer frame stands
  Pushed : (n : ℕ) (left : List Op) (top : List ℕ) → Doing
  -- the number comes back to the inner frame
  Return : (n : ℕ) (left : List Op) (top : List ℕ) → Doing

abbrev pub act_frames : Doing → List Held → Option (Act Doing Held)
act_frames (Do [] top) frames = None
act_frames (Do (Skip ∷ left) top) frames = goes (Do left top)
act_frames (Do (Say n ∷ left) top) frames = makes (Pushed n left (length frames ∷ [])) (held outer top ∷ [])
act_frames (Pushed n left top) frames = makes (Return n left (length frames ∷ [])) (held inner top ∷ [])
act_frames (Return n left top) frames = tells (Do left top) (n ∷ [])

abbrev pub end_frames : Doing → End
end_frames (Do left top) = Normal
end_frames (Pushed n left top) = Stuck
end_frames (Return n left top) = Stuck

abbrev pub pass_frames : Doing → Option Point
pass_frames (Do left top) = None
pass_frames (Pushed n left top) = None
pass_frames (Return n left top) = Some inner

abbrev pub top_of : Doing → List ℕ
top_of (Do left top) = top
top_of (Pushed n left top) = top
top_of (Return n left top) = top

abbrev pub frames : StoreMachine Doing Held
frames = record { act = act_frames; end = λ c s. end_frames c; pass = λ c s. pass_frames c; roots = λ c s. top_of c; view = held_block }

abbrev pub run_ops : List Op → Run
run_ops ops = run_from (machine_of frames) (outer ∷ inner ∷ []) (record { control = Do ops []; out = []; store = [] })
