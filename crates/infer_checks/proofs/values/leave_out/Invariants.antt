use Rattle.std.proofs.Common.{take}
use Rattle.infer_state.specs.Fits.{settled_at}
use Rattle.infer_checks.specs.Checked.{ending}
use Rattle.infer_checks.specs.Node.{AreLeftOut}
use Rattle.infer_checks.proofs.values.leave_out.Given as goal

abbrev pub invariant-names : goal.invariant-names
invariant-names l = AreLeftOut (settled_at l.unknowns.types l.settled) (ending l.unknowns l.renames) l.tyvars (take l.name-index l.names)
