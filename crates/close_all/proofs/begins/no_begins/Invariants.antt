use Rattle.std.proofs.Common.{◌≡◌, replicate}
use Rattle.close_all.specs.Begins.{nothing_seen}
use Rattle.close_all.proofs.begins.no_begins.Given as goal

abbrev pub invariant-loop : goal.invariant-loop
invariant-loop l = l.begins.items ≡ replicate l.counter nothing_seen
