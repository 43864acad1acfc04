use Rattle.std.proofs.Common.{◌≡◌, ◌∷◌, List, length}
use Rattle.sml_syntax.specs.declared.forms.Terminal.{Terminal}
use Rattle.sml_syntax.specs.Fixity.{Fix}
use Rattle.syntax_laws.specs.Steps.{lead}
use Rattle.sml_fixity.specs.Turns.{HasCome, stack_of, Stands}
use Rattle.sml_fixity.proofs.turns.shift.Given as goal

abbrev pub invariant-loop-symbol : goal.invariant-loop-symbol
invariant-loop-symbol l = record {
  here : HasCome l.terminal l.left l.machine;
  goes : (f : Fix) (r a : List Terminal) → l.left ≡ length (l.terminal ∷ a) → Stands f r (l.terminal ∷ a) (stack_of l.fn.machine) l.fn.machine → Stands f r (l.terminal ∷ a) (stack_of l.machine) l.machine;
}

abbrev pub decreases-loop-symbol : goal.decreases-loop-symbol
decreases-loop-symbol l = lead (stack_of l.machine)
