use Rattle.std.proofs.Common.{◌≡◌}
use Rattle.sml_derive.specs.Steps.{marked}
use Rattle.sml_derive.specs.Forms.{times, case_end}
use Rattle.sml_derive.proofs.forms.close_cases.Given as goal

abbrev pub invariant-loop : goal.invariant-loop
invariant-loop l = l.walk ≡ marked (times l.counter (case_end l.place)) l.fn.walk
