use Rattle.convert_points.proofs.Terms.{conversion_is_paid}
use Rattle.convert_points.proofs.conversion_is_paid.Goals as goal

pub returns : goal.returns
returns c = conversion_is_paid
