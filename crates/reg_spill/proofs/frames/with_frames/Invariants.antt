use Rattle.std.proofs.Common.{◌≡◌, take, map}
use Rattle.place_bodies.specs.Steps.{at_of}
use Rattle.reg_spill.specs.Frames.{with_frame}
use Rattle.reg_spill.proofs.frames.with_frames.Given as goal

abbrev pub invariant-loop-function : goal.invariant-loop-function
invariant-loop-function l = l.all ≡ map (with_frame (at_of l.words)) (take l.function-index l.functions)
