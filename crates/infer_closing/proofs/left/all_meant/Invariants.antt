use Rattle.std.proofs.Common.{[], take}
use Rattle.infer_closing.specs.Closing.{meaning}
use Rattle.infer_closing.specs.Left.{Gets, StandsInOne}
use Rattle.infer_closing.proofs.left.all_meant.Given as goal

abbrev pub invariant-vars : goal.invariant-vars
invariant-vars l = Gets (StandsInOne (meaning l.unknowns) (take l.var-index l.vars)) [] l.found
