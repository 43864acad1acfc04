use Rattle.infer_laws.proofs.Principal.{principal}
use Rattle.infer_laws.proofs.most_general_is_principal.Goals as goal

pub returns : goal.returns
returns c = λ p forms bound starts names abbreviations contexts settled general f. principal p forms bound starts names abbreviations contexts settled general f
