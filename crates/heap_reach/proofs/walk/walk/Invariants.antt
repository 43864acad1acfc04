use Rattle.std.proofs.Common.{◌≡◌, ◌-◌, ◌≤◌, length, take}
use Rattle.heap_reach.specs.Walk.{IsWalked, words_of}
use Rattle.heap_reach.proofs.walk.walk.Given as goal

abbrev pub invariant-loop-done : goal.invariant-loop-done
invariant-loop-done l = record {
  room : l.found.room ≡ l.fn.found.room;
  within : l.done ≤ length l.found.numbers;
  walked : IsWalked l.arena.address l.arena.words l.machine.state l.roots l.done l.found.numbers;
  words : l.words ≡ words_of l.arena.address l.machine.state (take l.done l.found.numbers);
}

abbrev pub decreases-loop-done : goal.decreases-loop-done
decreases-loop-done l = l.fn.found.room - l.done
