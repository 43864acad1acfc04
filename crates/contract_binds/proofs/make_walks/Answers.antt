use Rattle.contract_binds.proofs.Walks.{make_is}
use Rattle.contract_binds.proofs.make_walks.Goals as goal

pub returns : goal.returns
returns g texts part counts places blocks root ι x shape atoms c new k = make_is texts part counts places blocks root ι x c new shape atoms k
