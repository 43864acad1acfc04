use Rattle.std.proofs.Common.{arith, ◌≡◌, ap, drop, reverse, []}
use Rattle.std.proofs.Math.ListN.{drop_of_length-le}
use Rattle.sml_tree.specs.Depth.{greatest}
use Rattle.sml_fixity.proofs.NodeLemmas.{greatest_reverse}
use Rattle.sml_fixity.proofs.depth.greatest.Goals as goal

pub returns : goal.returns
returns c =
    let none : drop c.loop-depth.depth-index c.args.depths.now ≡ [] = drop_of_length-le c.args.depths.now c.loop-depth-test.false in
    let zero : greatest (drop c.loop-depth.depth-index c.args.depths.now) ≡ 0 = ap greatest none in
    let same : greatest (reverse c.args.depths.now) ≡ greatest c.args.depths.now = greatest_reverse c.args.depths.now in
    omega (arith, zero, same, c.loop-depth.invariant)
