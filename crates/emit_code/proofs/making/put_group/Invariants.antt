use Rattle.std.proofs.Common.{◌≡◌, ◌++◌, ◌+◌, drop}
use Rattle.emit_items.specs.Making.{group_words, group_put}
use Rattle.emit_code.proofs.making.put_group.Given as goal

abbrev pub invariant-loop-building : goal.invariant-loop-building
invariant-loop-building l = record {
  words : l.offset + group_words (drop l.building-index l.buildings) ≡ group_words l.buildings;
  items : l.items.items ++ group_put l.labels l.offset (drop l.building-index l.buildings) ≡ l.fn.items.items ++ group_put l.labels 0 l.buildings;
}
