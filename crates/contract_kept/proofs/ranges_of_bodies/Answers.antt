use Rattle.contract_kept.proofs.Trees.{body_kept}
use Rattle.contract_kept.proofs.ranges_of_bodies.Goals as goal

pub returns : goal.returns
returns c q part b r = body_kept q part b r
