use Rattle.std.proofs.Common.{◌≡◌, drop}
use Rattle.std.specs.Prelude.{max}
use Rattle.sml_unify.specs.Solved.{above, next_number}
use Rattle.sml_unify.proofs.bind.number.Given as goal

abbrev pub invariant-loop-form : goal.invariant-loop-form
invariant-loop-form l = max l.next (above (drop l.form-index l.forms)) ≡ next_number l.forms l.bound
