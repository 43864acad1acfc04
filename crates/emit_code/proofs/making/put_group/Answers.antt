use Rattle.std.proofs.Common.{◌≡◌, refl, ◌+◌, ◌∙◌, ap}
use Rattle.emit_items.specs.Making.{block_length, group_words, block_put, group_put}
use Rattle.emit_code.proofs.Loops.{one_more, sum_more}
use Rattle.emit_code.proofs.making.put_group.Goals as goal

pub loop-building-preserved : goal.loop-building-preserved
loop-building-preserved c =
    let L = c.args.labels.now in
    let next : c.in_ok-offset.offset ≡ c.loop-building.offset + (block_length c.building-item.result + 1) = c.in_ok-offset.ensures ∙ ap (λ n. c.loop-building.offset + n) (c.in_ok-sum.ensures ∙ ap (λ n. n + 1) c.in_ok-size.ensures) in
    record {
      words = sum_more (λ b. block_length b + 1) group_words (λ b bs. refl) c.args.buildings.now c.loop-building.building-index _ c.building-item.result c.loop-building.offset c.in_ok-offset.offset _ c.loop-building-test.true c.building-item.is next c.loop-building.invariant.words;
      items = one_more (block_put L) (λ n b. n + (block_length b + 1)) (group_put L) (λ n b bs. refl) c.args.buildings.now c.loop-building.building-index _ c.building-item.result c.loop-building.offset c.in_ok-offset.offset _ _ _ c.loop-building-test.true c.building-item.is next c.in_ok-put_block.ensures c.loop-building.invariant.items;
    }
