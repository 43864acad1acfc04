use Rattle.std.proofs.Common.{◌≡◌, map, take}
use Rattle.sml_expansion.specs.Fields.{slot_placed}
use Rattle.sml_expansion.specs.Types.{labs_of}
use Rattle.sml_expansion.proofs.labels.slots_placed.Given as goal

abbrev pub invariant-loop-lab : goal.invariant-loop-lab
invariant-loop-lab l = l.slots.items ≡ map (slot_placed (labs_of l.labs)) (take l.lab-index l.labs)
