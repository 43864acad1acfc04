use Rattle.convert_slim.proofs.Slim.{converted_is_slim}
use Rattle.convert_slim.proofs.converted_is_slim.Goals as goal

pub returns : goal.returns
returns c = converted_is_slim
