use Rattle.std.proofs.Common.{List, drop}
use Rattle.sml_expansion.specs.Terms.{Term}
use Rattle.sml_derive.specs.Tops.{AreAt}
use Rattle.sml_derive.proofs.TopLemmas.{LeftTops}
use Rattle.sml_derive.proofs.top_trees.tops.Given as goal

abbrev pub invariant-loop-at : goal.invariant-loop-at
invariant-loop-at l = (terms : List Term) → AreAt l.parsed l.decs terms → LeftTops l.parsed terms l.fn.walk l.walk l.fn.trees.items l.trees.items (drop l.at-index l.decs)
