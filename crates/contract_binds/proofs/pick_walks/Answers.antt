use Rattle.contract_binds.proofs.Walks.{pick_is}
use Rattle.contract_binds.proofs.pick_walks.Goals as goal

pub returns : goal.returns
returns g texts part counts places blocks root ι x i a c new k = pick_is texts part counts places blocks root ι x c new i a k
