use Rattle.std.proofs.Common.{◌≡◌, ◌+◌, ◌≤◌}
use Rattle.rt_prims.specs.Text.{with_labels}
use Rattle.rt_prims.proofs.text.make_labels.Given as goal

abbrev pub invariant-loop : goal.invariant-loop
invariant-loop l = record {
  made : l.asm ≡ with_labels l.counter l.fn.asm;
  few : l.first + l.counter ≤ 4294967296;
  low : 1 ≤ l.counter;
}
