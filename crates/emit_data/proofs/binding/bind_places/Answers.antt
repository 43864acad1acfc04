use Rattle.std.proofs.Common.{arith}
use Rattle.emit_data.proofs.Loops.{free_next, places_more}
use Rattle.emit_data.proofs.binding.bind_places.Goals as goal

pub bind_at-requires-clause-free : goal.bind_at-requires-clause-free
bind_at-requires-clause-free c =
    let w = c.loop-place.invariant in
    free_next c.args.asm.now c.loop-place.asm c.args.first c.loop-place.place-index c.loop-place.label c.args.places.now c.loop-place-test.true w.numbered c.requires.free w.bound

pub loop-place-preserved : goal.loop-place-preserved
loop-place-preserved c =
    let w = c.loop-place.invariant in
    record {
      numbered = omega (arith, c.in_ok-label.ensures, w.numbered);
      bound = places_more c.args.asm.now c.loop-place.asm c.bind_at.new.self c.args.first c.loop-place.place-index c.loop-place.label c.args.places.now 0 c.loop-place-test.true w.numbered c.requires.free w.bound c.bind_at.ensures;
    }
