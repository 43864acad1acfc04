-- The points of a program stand in ascending order, that of comparisons last.
use Rattle.std.proofs.Common.{◌*◌, length, arith}
use Rattle.sml_tree.specs.Points.{spots}
use Rattle.sml_tree.proofs.Ascends.{spots_between, ascend_before}
use Rattle.sml_def.specs.Run.{eq_point}
use Rattle.sml_def.specs.Laws.{PointsAscend}

pub points_ascend : PointsAscend
points_ascend p bare =
    ascend_before 0 (length p.nodes * 5) (spots p.nodes) eq_point (spots_between p.nodes bare.numbered bare.preorder) (omega (arith, bare.few))
