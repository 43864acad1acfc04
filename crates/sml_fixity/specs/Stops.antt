-- Where a list of terminals stops to begin a program.
use Rattle.std.specs.Prelude.{ℕ, ◌+◌, ◌<◌, true, false, take, List, length}
use Rattle.sml_syntax.specs.declared.forms.Terminal.{Terminal}
use Rattle.sml_syntax.specs.Fixity.{Fix}
use Rattle.sml_syntax.specs.Grammar.{Begins}
use Rattle.sml_fixity.specs.declared.read.Stop.{Stop}
use Rattle.sml_fixity.specs.declared.read.Stop.TheVariants as stop

-- the first i terminals begin a program, and with the next one they begin none
pub record StopsAt (f : Fix) (a : List Terminal) (i : ℕ) : Type 0 where
  pub inside : i < length a
  pub before : Begins false f (take i a)
  pub with_it : Begins false f (take (i + 1) a) → ⊥

-- the cause is mixed fixity where they would begin one if operators of one precedence that associate in different ways were grouped to the left
abbrev pub Stops : Fix → List Terminal → Stop → Type 0
Stops f a (stop.Syntax i) = StopsAt f a i × (Begins true f (take (i + 1) a) → ⊥)
Stops f a (stop.Mixed i) = StopsAt f a i × Begins true f (take (i + 1) a)
Stops f a stop.NoMemory = Unit {0}
