use Rattle.std.proofs.Common.{◌≡◌, arith}
use Rattle.emit_code.proofs.Rooms.{fill_more, fill_end}
use Rattle.emit_code.proofs.making.fill.Goals as goal

pub loop-k-preserved : goal.loop-k-preserved
loop-k-preserved c = fill_more c.args.count c.loop-k.k _ _ _ c.loop-k-test.true c.in_ok-store_word.ensures c.loop-k.invariant

pub returns : goal.returns
returns c =
    let end : c.loop-k.k ≡ c.args.count = omega (arith, c.loop-k-test.false) in
    fill_end c.args.count c.loop-k.k _ _ end c.loop-k.invariant
