use Rattle.match_laws.proofs.ByType as by_type
use Rattle.match_laws.proofs.tests_choose_by_type.Goals as goal

pub returns : goal.returns
returns c = by_type.tests_choose_by_type
