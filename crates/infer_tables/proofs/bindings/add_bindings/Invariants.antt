use Rattle.std.proofs.Common.{take}
use Rattle.std.specs.List.{AllByRecursion}
use Rattle.sml_types.specs.Typing.{IsTypeBinding}
use Rattle.infer_tables.specs.Known.{IsStep}
use Rattle.infer_tables.proofs.bindings.add_bindings.Given as goal

abbrev pub invariant-bindings : goal.invariant-bindings
invariant-bindings l = IsStep l.bare (λ t. AllByRecursion (IsTypeBinding l.bare t) (take l.at l.bindings)) 0 l.fn.types l.fn.known l.types l.known
