use Rattle.std.proofs.Common.{◌≡◌, take}
use Rattle.close_groups.specs.Group.{records_at}
use Rattle.close_groups.proofs.members.records.Given as goal

abbrev pub invariant-loop-class : goal.invariant-loop-class
invariant-loop-class l = l.bounds.items ≡ records_at l.decisions.first_record (take l.class-index l.classes)
