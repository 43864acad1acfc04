use Rattle.std.proofs.Common.{◌≡◌, take}
use Rattle.close_groups.specs.Group.{statics_in}
use Rattle.close_groups.proofs.members.statics.Given as goal

abbrev pub invariant-loop-function : goal.invariant-loop-function
invariant-loop-function l = l.bounds.items ≡ statics_in l.decisions (take l.function-index l.functions)
