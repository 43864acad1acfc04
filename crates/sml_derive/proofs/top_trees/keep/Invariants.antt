use Rattle.std.proofs.Common.{◌≡◌, ◌++◌, true, drop}
use Rattle.sml_derive.specs.Tops.{trees_of}
use Rattle.sml_derive.proofs.top_trees.keep.Given as goal

abbrev pub invariant-loop-each : goal.invariant-loop-each
invariant-loop-each l = l.fn.trees.items ++ trees_of true l.place l.shown ≡ l.trees.items ++ trees_of l.first l.place (drop l.each-index l.shown)
