use Rattle.std.proofs.Common.{◌≡◌, map, take}
use Rattle.smlc_base.specs.declared.point.Label.{Label}
use Rattle.live_classes.proofs.classing.labels.Given as goal

abbrev pub invariant-loop-user : goal.invariant-loop-user
invariant-loop-user l = l.labels.items ≡ map {B = Label} (λ n. record { 0 = n }) (take l.user-index l.users)
