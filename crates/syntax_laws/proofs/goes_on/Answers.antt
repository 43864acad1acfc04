use Rattle.syntax_laws.proofs.Taken.{accepted}
use Rattle.syntax_laws.proofs.Completed.{completed}
use Rattle.std.proofs.Common.{refl}
use Rattle.syntax_laws.proofs.goes_on.Goals as goal

pub returns : goal.returns
returns c = λ v k f h. let (a, g) = completed v k f h in let (o, w) = accepted g k refl in (a, o, w)
