use Rattle.convert_slim.proofs.Slim.{middle_is_slim}
use Rattle.convert_slim.proofs.middle_is_slim.Goals as goal

pub returns : goal.returns
returns c = middle_is_slim
