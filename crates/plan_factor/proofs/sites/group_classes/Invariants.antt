use Rattle.std.proofs.Common.{take}
use Rattle.std.specs.Prelude.{slice_get}
use Rattle.sml_tree.specs.Sets.{union_over}
use Rattle.cps_free.specs.Same.{AreSame}
use Rattle.plan_factor.specs.Groups.{classes_at}
use Rattle.plan_factor.proofs.sites.group_classes.Given as goal

abbrev pub invariant-loop-i : goal.invariant-loop-i
invariant-loop-i l = AreSame l.set.keys (union_over (λ j. classes_at (slice_get l.layouts j)) (take l.i-index l.group))
