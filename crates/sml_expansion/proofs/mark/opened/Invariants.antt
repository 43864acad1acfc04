use Rattle.std.proofs.Common.{◌≡◌, ◌+◌, ◌≤◌, drop}
use Rattle.sml_expansion.specs.Linking.{opened}
use Rattle.sml_expansion.proofs.mark.opened.Given as goal

abbrev pub invariant-loop-mark : goal.invariant-loop-mark
invariant-loop-mark l = record { sum : l.count + opened (drop l.mark-index l.marks) ≡ opened l.marks; few : l.count ≤ l.mark-index }
