use Rattle.match_laws.proofs.Meeting as met
use Rattle.match_laws.proofs.tests_are_met.Goals as goal

pub returns : goal.returns
returns c = met.tests_are_met
