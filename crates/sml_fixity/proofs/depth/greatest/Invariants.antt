use Rattle.std.proofs.Common.{◌≡◌, max, drop}
use Rattle.sml_tree.specs.Depth.{greatest}
use Rattle.sml_fixity.proofs.depth.greatest.Given as goal

abbrev pub invariant-loop-depth : goal.invariant-loop-depth
invariant-loop-depth l = max l.most (greatest (drop l.depth-index l.depths)) ≡ greatest l.depths
