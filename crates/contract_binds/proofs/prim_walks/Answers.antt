use Rattle.contract_binds.proofs.Walks.{prim_is}
use Rattle.contract_binds.proofs.prim_walks.Goals as goal

pub returns : goal.returns
returns g texts part counts places blocks root ι x f atoms c new k = prim_is texts part counts places blocks root ι x c new f atoms k
