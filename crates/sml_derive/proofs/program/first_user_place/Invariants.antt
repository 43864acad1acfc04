use Rattle.std.proofs.Common.{List, drop}
use Rattle.sml_expansion.specs.Terms.{Term}
use Rattle.sml_derive.specs.Tops.{AreAt}
use Rattle.sml_derive.proofs.Roots.{LeftPlaces}
use Rattle.sml_derive.proofs.program.first_user_place.Given as goal

abbrev pub invariant-loop-at : goal.invariant-loop-at
invariant-loop-at l = (terms : List Term) → AreAt l.parsed l.decs terms → LeftPlaces l.parsed terms (drop l.at-index l.decs)
