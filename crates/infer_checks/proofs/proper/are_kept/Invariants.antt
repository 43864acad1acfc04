use Rattle.std.proofs.Common.{take}
use Rattle.std.specs.List.{AllByRecursion}
use Rattle.infer_checks.specs.Checked.{ending}
use Rattle.infer_checks.specs.Ending.{IsKept}
use Rattle.infer_checks.proofs.proper.are_kept.Given as goal

abbrev pub invariant-vars : goal.invariant-vars
invariant-vars l = AllByRecursion (IsKept (ending l.unknowns l.renames) l.renames l.numbers) (take l.var-index l.vars)
