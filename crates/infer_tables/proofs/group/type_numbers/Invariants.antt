use Rattle.std.proofs.Common.{◌≡◌, ◌++◌, drop}
use Rattle.sml_types.specs.Typing.{type_numbers}
use Rattle.infer_tables.proofs.group.type_numbers.Given as goal

abbrev pub invariant-bindings : goal.invariant-bindings
invariant-bindings l = l.numbers.items ++ type_numbers (drop l.binding-index l.bindings) ≡ type_numbers l.bindings
