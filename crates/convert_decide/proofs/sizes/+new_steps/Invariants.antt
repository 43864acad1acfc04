use Rattle.std.proofs.Common.{length}
use Rattle.convert_decide.proofs.sizes.+new_steps.Given as goal

abbrev pub decreases-new_steps : goal.decreases-new_steps
decreases-new_steps l = length l.gone.now
