use Rattle.std.proofs.Common.{◌≡◌, ◌++◌, drop}
use Rattle.sml_expansion.specs.Bindings.{con_meanings}
use Rattle.expand_types.specs.Effects.{new_cons}
use Rattle.expand_types.proofs.datatypes.push_values.Given as goal

abbrev pub invariant-loop-con : goal.invariant-loop-con
invariant-loop-con l = l.values ++ con_meanings l.type_name l.number (new_cons (drop l.con-index l.cons)) ≡ l.fn.values ++ con_meanings l.type_name 0 (new_cons l.cons)
