use Rattle.std.proofs.Common.{take}
use Rattle.infer_closing.specs.Groups.{of_group}
use Rattle.infer_closing.specs.Closing.{meaning}
use Rattle.infer_closing.specs.Found.{AreFound}
use Rattle.infer_closing.proofs.found.of_group.Given as goal

abbrev pub invariant-bindings : goal.invariant-bindings
invariant-bindings l = AreFound l.bare (meaning l.unknowns) l.unknowns.types (of_group (take l.binding-index l.bindings)) l.groups.items
