use Rattle.std.proofs.Common.{◌≡◌, take}
use Rattle.std.specs.Prelude.{flat_map}
use Rattle.infer_state.specs.Names.{names_bound}
use Rattle.smlc_top.proofs.types.numbers_of.Given as goal

abbrev pub invariant-shown : goal.invariant-shown
invariant-shown l = l.numbers.items ≡ flat_map (names_bound l.bare.nodes) (take l.declaration-index l.declaration-items)
