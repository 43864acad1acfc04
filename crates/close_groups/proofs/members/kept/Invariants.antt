use Rattle.std.proofs.Common.{◌≡◌, take}
use Rattle.close_groups.specs.Group.{kept_in}
use Rattle.close_groups.proofs.members.kept.Given as goal

abbrev pub invariant-loop-function : goal.invariant-loop-function
invariant-loop-function l = l.names.items ≡ kept_in l.decisions (take l.function-index l.functions)
