use Rattle.std.proofs.Common.{◌≡◌}
use Rattle.heap_reach.specs.Numbers.{Adds}
use Rattle.heap_reach.specs.Walk.{IsField}
use Rattle.heap_reach.proofs.walk.add_fields.Given as goal

abbrev pub invariant-loop-k : goal.invariant-loop-k
invariant-loop-k l = record {
  room : l.found.room ≡ l.fn.found.room;
  adds : Adds (IsField l.arena.address l.arena.words l.machine.state l.first l.k) l.fn.found.numbers l.found.numbers;
}
