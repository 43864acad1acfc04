use Rattle.rv_asm.proofs.Lists.{counted_more, layout_more}
use Rattle.rv_asm.proofs.layout.bytes_of.Goals as goal

pub loop-item-preserved : goal.loop-item-preserved
loop-item-preserved c =
    let items = c.args.items.now in
    let i = c.loop-item.item-index in
    let w = c.loop-item.invariant in
    record {
      counted = counted_more items i _ c.loop-item.here c.size-here.result c.loop-item-test.true w.counted c.size-here.ensures;
      written = layout_more c.args.places.now items i _ c.loop-item.here c.loop-item.bytes.items c.write_item.new.bytes.items c.loop-item-test.true w.counted w.written c.in_ok-write_item.ensures;
    }
