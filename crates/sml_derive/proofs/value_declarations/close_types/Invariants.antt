use Rattle.std.proofs.Common.{◌≡◌, take}
use Rattle.sml_derive.specs.Steps.{marked}
use Rattle.sml_derive.specs.Values.{typed_ends}
use Rattle.sml_derive.proofs.value_declarations.close_types.Given as goal

abbrev pub invariant-loop-ty : goal.invariant-loop-ty
invariant-loop-ty l = l.walk ≡ marked (typed_ends l.place (take l.ty-index l.types)) l.fn.walk
