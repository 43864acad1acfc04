use Rattle.convert_points.proofs.Points.{sites_of_a_tree_fit}
use Rattle.convert_points.proofs.sites_of_a_tree_fit.Goals as goal

pub returns : goal.returns
returns c = sites_of_a_tree_fit
