use Rattle.convert_points.proofs.Points.{converted_points_stand_once}
use Rattle.convert_points.proofs.converted_points_stand_once.Goals as goal

pub returns : goal.returns
returns c = converted_points_stand_once
