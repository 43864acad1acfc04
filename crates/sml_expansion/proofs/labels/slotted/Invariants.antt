use Rattle.std.proofs.Common.{◌≡◌, ◌++◌}
use Rattle.sml_expansion.specs.Fields.{slotted}
use Rattle.sml_expansion.proofs.labels.slotted.Given as goal

abbrev pub invariant-loop-lab : goal.invariant-loop-lab
invariant-loop-lab l = l.row ++ slotted l.rest l.lab-iterator.rest.items ≡ slotted l.slots l.fn.labs.items
