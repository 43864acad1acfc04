use Rattle.text_laws.proofs.OneText.{one}
use Rattle.text_laws.proofs.one_text.Goals as goal

pub returns : goal.returns
returns c = λ p a b bare h k. one p a b bare h k
