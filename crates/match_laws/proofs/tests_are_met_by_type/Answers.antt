use Rattle.match_laws.proofs.ByType as by_type
use Rattle.match_laws.proofs.tests_are_met_by_type.Goals as goal

pub returns : goal.returns
returns c = by_type.tests_are_met_by_type
