use Rattle.sml_types.proofs.Few as law
use Rattle.sml_types.proofs.laws.tables_are_few.Goals as goal

pub returns : goal.returns
returns c = law.tables_are_few
