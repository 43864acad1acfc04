use Rattle.std.proofs.Common.{◌≡◌, ◌++◌}
use Rattle.expand_patterns.specs.Opens.{item_ends}
use Rattle.expand_patterns.proofs.closing.close_items.Given as goal

abbrev pub invariant-loop-item : goal.invariant-loop-item
invariant-loop-item l = l.walk ≡ record l.initial.walk { marks = l.initial.walk.marks ++ item_ends l.place l.item }
