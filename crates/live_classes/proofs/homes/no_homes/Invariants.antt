use Rattle.std.proofs.Common.{◌≡◌, None, replicate}
use Rattle.live_classes.proofs.homes.no_homes.Given as goal

abbrev pub invariant-loop : goal.invariant-loop
invariant-loop l = l.homes.items ≡ replicate l.counter None
