use Rattle.std.proofs.Common.{◌≡◌, take}
use Rattle.label_plans.specs.Rows.{rows_in}
use Rattle.label_plans.proofs.rows.label_plans.Given as goal

abbrev pub invariant-loop-i : goal.invariant-loop-i
invariant-loop-i l = l.found.items ≡ rows_in l.left l.sites l.classes l.all l.layouts (take l.i-index l.order)
