use Rattle.std.proofs.Common.{◌∷◌, length}
use Rattle.syntax_laws.proofs.Kept.{eat_good, end_leaves}
use Rattle.syntax_laws.proofs.eats_good.Goals as goal

pub returns : goal.returns
returns c = λ v s k f t a p e h. (eat_good v s p k f t (length (t ∷ a)) e h, λ q. end_leaves v s p k f t (length (t ∷ a)) e h q)
