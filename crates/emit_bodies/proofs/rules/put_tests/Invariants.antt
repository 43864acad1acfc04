use Rattle.std.proofs.Common.{◌≡◌, ◌≤◌, ◌++◌, drop, length}
use Rattle.rv_asm.specs.Item.{words}
use Rattle.emit_items.specs.Tests.{all_tested}
use Rattle.emit_bodies.proofs.rules.put_tests.Given as goal

abbrev pub decreases-loop-left : goal.decreases-loop-left
decreases-loop-left l = l.left

abbrev pub invariant-loop-left : goal.invariant-loop-left
invariant-loop-left l = record {
  few : l.left ≤ length l.tests;
  start : l.start ≡ words l.fn.text;
  enough : l.start ≤ words l.text;
  text : l.text ≡ all_tested l.labels l.subject (drop l.left l.tests) l.after ++ l.fn.text;
}
