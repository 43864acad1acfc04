use Rattle.print_code.proofs.Single.{one_meaning}
use Rattle.print_code.proofs.laws.trees_mean_one_thing.Goals as goal

pub returns : goal.returns
returns c = one_meaning
