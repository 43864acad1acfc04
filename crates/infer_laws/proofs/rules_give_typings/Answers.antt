use Rattle.infer_laws.proofs.Gives.{rules_give}
use Rattle.infer_laws.proofs.rules_give_typings.Goals as goal

pub returns : goal.returns
returns c = λ p forms names abbreviations contexts settled general f. rules_give p forms names abbreviations contexts settled general f
