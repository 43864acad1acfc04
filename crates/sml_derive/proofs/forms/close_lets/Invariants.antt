use Rattle.std.proofs.Common.{◌≡◌}
use Rattle.sml_derive.specs.Steps.{marked}
use Rattle.sml_derive.specs.Forms.{times, let_end}
use Rattle.sml_derive.proofs.forms.close_lets.Given as goal

abbrev pub invariant-loop : goal.invariant-loop
invariant-loop l = l.walk ≡ marked (times l.counter (let_end l.place)) l.fn.walk
