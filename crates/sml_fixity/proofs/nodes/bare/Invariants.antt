use Rattle.std.proofs.Common.{◌≡◌, ◌++◌, drop}
use Rattle.sml_fixity.specs.Nodes.{bare}
use Rattle.sml_fixity.proofs.nodes.bare.Given as goal

abbrev pub invariant-loop-one : goal.invariant-loop-one
invariant-loop-one l = l.nodes.items ++ bare (drop l.one-index l.made) ≡ bare l.made
