use Rattle.std.proofs.Common.{◌∷◌, length}
use Rattle.syntax_laws.proofs.Kept.{skip_good}
use Rattle.syntax_laws.proofs.skips_fall.Goals as goal

pub returns : goal.returns
returns c = λ v s k f t a p e h. skip_good v s p k f t (length (t ∷ a)) e h
