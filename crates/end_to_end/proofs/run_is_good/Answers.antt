use Rattle.end_to_end.proofs.Derived.{good_run}
use Rattle.end_to_end.proofs.run_is_good.Goals as goal

pub returns : goal.returns
returns c = λ charge factor spill arena words made used next err s e m h pays. good_run charge factor spill arena words made used next err s e m h.first h.whole h.placed h.emitted pays
