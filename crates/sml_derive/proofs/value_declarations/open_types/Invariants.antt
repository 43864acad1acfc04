use Rattle.std.proofs.Common.{◌≡◌, [], ◌∷◌}
use Rattle.sml_expansion.specs.declared.mark.Mark.TheVariants.{Open}
use Rattle.sml_derive.specs.Forms.{times}
use Rattle.sml_derive.specs.Steps.{marked}
use Rattle.sml_derive.proofs.value_declarations.open_types.Given as goal

abbrev pub invariant-loop : goal.invariant-loop
invariant-loop l = l.walk ≡ marked (times l.index (Open ∷ [])) l.fn.walk
