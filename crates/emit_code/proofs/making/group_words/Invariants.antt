use Rattle.std.proofs.Common.{◌≡◌, ◌+◌, drop}
use Rattle.emit_items.specs.Making.{group_words}
use Rattle.emit_code.proofs.making.group_words.Given as goal

abbrev pub invariant-loop-building : goal.invariant-loop-building
invariant-loop-building l = l.total + group_words (drop l.building-index l.buildings) ≡ group_words l.buildings
