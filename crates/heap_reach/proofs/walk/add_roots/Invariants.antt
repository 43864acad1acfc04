use Rattle.std.proofs.Common.{◌≡◌, take}
use Rattle.heap_reach.specs.Numbers.{Adds}
use Rattle.heap_reach.specs.Walk.{IsRoot}
use Rattle.heap_reach.proofs.walk.add_roots.Given as goal

abbrev pub invariant-loop-root : goal.invariant-loop-root
invariant-loop-root l = record {
  room : l.found.room ≡ l.fn.found.room;
  adds : Adds (IsRoot l.arena.address l.arena.words l.machine.state (take l.root-index l.roots)) l.fn.found.numbers l.found.numbers;
}
