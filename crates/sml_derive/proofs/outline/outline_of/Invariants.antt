use Rattle.std.proofs.Common.{◌≡◌, List, drop}
use Rattle.smlc_base.specs.declared.place.Place.{Place}
use Rattle.sml_expansion.specs.Forests.{numbered}
use Rattle.sml_expansion.specs.Programs.{Top, program}
use Rattle.sml_derive.specs.Tops.{all_trees, AreKnown}
use Rattle.sml_derive.proofs.Links.{LeftLinks}
use Rattle.sml_derive.proofs.outline.outline_of.Given as goal

abbrev pub invariant-loop-tree : goal.invariant-loop-tree
invariant-loop-tree l = (end : Place) (tops : List Top) → AreKnown tops → l.nodes ≡ numbered 0 (program end tops) → l.trees ≡ all_trees tops → LeftLinks l.nodes tops (drop l.tree-index l.trees) l.at l.decs l.shown
