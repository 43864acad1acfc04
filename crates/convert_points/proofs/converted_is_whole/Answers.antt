use Rattle.convert_points.proofs.Points.{converted_is_whole}
use Rattle.convert_points.proofs.converted_is_whole.Goals as goal

pub returns : goal.returns
returns c = converted_is_whole
