use Rattle.std.proofs.Common.{rules, ◌≡◌, ◌<◌, ◌+◌, ◌-◌, ◌++◌, arith}
use Rattle.rv_asm.specs.Item.{words}
use Rattle.emit_items.specs.Tests.{tested}
use Rattle.emit_bodies.proofs.Testing.{test_before, still_enough}
use Rattle.emit_bodies.proofs.rules.put_tests.Goals as goal

pub loop-left-preserved : goal.loop-left-preserved
loop-left-preserved c =
    let piece = c.test_one.new.items.items in
    let some : 0 < c.loop-left.left = omega (arith, c.loop-left-test.true) in
    let e : piece ≡ tested c.args.labels.now c.args.subject.now c.index-tests-left.result c.in_ok-behind.behind = search rules in
    let p : c.put_in_front.new.self ≡ piece ++ c.loop-left.text = search rules in
    let far : c.in_ok-behind.behind ≡ c.args.after + (words c.loop-left.text - words c.args.text.now) = search rules in
    record {
      few = omega (arith, c.loop-left.invariant.few);
      start = c.loop-left.invariant.start;
      enough = still_enough c.words-start.result piece c.loop-left.text _ c.loop-left.invariant.enough p;
      text = test_before c.args.labels.now c.args.subject.now c.args.tests.now c.loop-left.left _ c.index-tests-left.result c.in_ok-behind.behind c.args.after c.args.text.now c.loop-left.text _ piece some c.loop-left.invariant.few c.loop-left.invariant.text c.index-tests-left.is far e p;
    }
