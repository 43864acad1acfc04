use Rattle.std.proofs.Common.{◌≡◌, [], take}
use Rattle.std.specs.List.{AllByRecursion}
use Rattle.infer_closing.proofs.left.any_waits.Given as goal

abbrev pub invariant-groups : goal.invariant-groups
invariant-groups l = AllByRecursion (λ g. g.vars ≡ []) (take l.group-index l.groups)
