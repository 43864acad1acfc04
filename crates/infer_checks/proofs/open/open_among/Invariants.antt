use Rattle.std.proofs.Common.{take}
use Rattle.infer_checks.specs.Checked.{ending}
use Rattle.infer_checks.specs.Ending.{Lists, IsOpenAmong}
use Rattle.infer_checks.proofs.open.open_among.Given as goal

abbrev pub invariant-inner : goal.invariant-inner
invariant-inner l = Lists (IsOpenAmong (ending l.unknowns l.renames) l.vars (take l.var-index l.inner)) l.numbers.items
