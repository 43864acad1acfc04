use Rattle.std.proofs.Common.{take}
use Rattle.std.specs.List.{AllByRecursion}
use Rattle.infer_checks.specs.Ending.{IsOutside}
use Rattle.infer_checks.proofs.fresh.are_outside.Given as goal

abbrev pub invariant-tyvars : goal.invariant-tyvars
invariant-tyvars l = AllByRecursion (IsOutside l.numbers l.others) (take l.tyvar-index l.tyvars)
