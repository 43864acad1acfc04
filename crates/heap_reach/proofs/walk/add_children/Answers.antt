use Rattle.std.proofs.Common.{sym, subst, ◌+◌}
use Rattle.heap_reach.specs.Numbers.{Adds}
use Rattle.heap_reach.specs.Walk.{IsField}
use Rattle.heap_reach.proofs.Adding.{child_fields}
use Rattle.heap_reach.proofs.walk.add_children.Goals as goal

pub returns-then-not-is_string-clause-adds : goal.returns-then-not-is_string-clause-adds
returns-then-not-is_string-clause-adds c =
    child_fields _ _ _ c.args.number c.args.header _ _ c.requires.stands (sym c.if-not-is_string.ensures)
    (subst (λ n. Adds (IsField c.args.arena.address c.args.arena.words c.args.machine.now.state (c.args.number + 1) n) c.args.found.now.numbers c.add_fields.new.found.numbers) c.body_words.ensures c.add_fields.ensures.adds)
