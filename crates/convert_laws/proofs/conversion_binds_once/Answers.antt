use Rattle.convert_laws.proofs.Once as once
use Rattle.convert_laws.proofs.conversion_binds_once.Goals as goal

pub returns : goal.returns
returns c = once.conversion_binds_once
