use Rattle.rv_machine.proofs.Flat.{segment_stored, laid_flat}
use Rattle.rv_machine.proofs.laws.segments_stand_in_order.Goals as goal

pub returns-clause-each : goal.returns-clause-each
returns-clause-each c = segment_stored

pub returns-clause-flat : goal.returns-clause-flat
returns-clause-flat c = laid_flat
