use Rattle.std.proofs.Common.{◌∷◌, length, refl}
use Rattle.syntax_laws.proofs.Taken.{accepted}
use Rattle.syntax_laws.proofs.Grouped.{mixed_on}
use Rattle.syntax_laws.proofs.mixed_lives.Goals as goal

pub returns : goal.returns
returns c = λ s k f t a e h. let (b, g) = mixed_on s k f t (length (t ∷ a)) e h in let (o, w) = accepted g (s ∷ k) refl in (b, o, w)
