use Rattle.std.proofs.Common.{arith, ◌≤◌, ◌-◌, reverse, take, length}
use Rattle.sml_tree.specs.Depth.{greatest}
use Rattle.sml_fixity.proofs.NodeLemmas.{head_low}
use Rattle.sml_fixity.proofs.depth.depth_of.Goals as goal

pub overflow_add-within : goal.overflow_add-within
overflow_add-within c =
    let h : greatest (reverse (take (length c.args.parts.now - 1) c.args.parts.now)) ≤ greatest (reverse c.args.parts.now) = head_low (length c.args.parts.now - 1) c.args.parts.now in
    omega (arith, h, c.greatest-within.ensures, c.requires)
