use Rattle.std.proofs.Common.{◌≡◌}
use Rattle.sml_derive.specs.Steps.{marked}
use Rattle.sml_derive.specs.Forms.{times, cons_end}
use Rattle.sml_derive.proofs.forms.close_conses.Given as goal

abbrev pub invariant-loop : goal.invariant-loop
invariant-loop l = l.walk ≡ marked (times l.counter (cons_end l.place)) l.fn.walk
