use Rattle.std.proofs.Common.{◌≡◌, map, take}
use Rattle.sml_expansion.specs.Labels.{slot}
use Rattle.sml_expansion.specs.Types.{labs_of}
use Rattle.sml_expansion.proofs.labels.slots.Given as goal

abbrev pub invariant-loop-lab : goal.invariant-loop-lab
invariant-loop-lab l = l.slots.items ≡ map (slot (labs_of l.labs)) (labs_of (take l.lab-index l.labs))
