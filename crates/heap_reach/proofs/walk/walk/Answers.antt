use Rattle.std.proofs.Common.{rules, ◌<◌, ◌+◌, ◌^◌, ◌∙◌, refl, subst, arith, List, ℕ}
use Rattle.simulation.proofs.Lists.{get_among}
use Rattle.heap_reach.specs.Numbers.{Adds}
use Rattle.heap_reach.specs.Walk.{IsRoot}
use Rattle.heap_reach.proofs.Adding.{adds_longer}
use Rattle.heap_reach.proofs.Walking.{reached_block, walked_none, walked_more, words_more, no_overflow, walked_all}
use Rattle.heap_reach.proofs.walk.walk.Goals as goal

pub loop-done-init : goal.loop-done-init
loop-done-init c = record {
  room = c.add_roots.ensures.room;
  within = omega arith;
  walked = walked_none _ _ _ _ _ (subst (λ (old : List ℕ). Adds (IsRoot c.args.arena.address c.args.arena.words c.args.machine.now.state c.args.roots.now) old c.add_roots.new.found.numbers) c.requires.none c.add_roots.ensures.adds);
  words = refl;
}

pub look_into-words-requires-clause-room : goal.look_into-words-requires-clause-room
look_into-words-requires-clause-room c = omega (arith, c.requires.room, c.loop-done.invariant.room)

pub look_into-words-requires-clause-block : goal.look_into-words-requires-clause-block
look_into-words-requires-clause-block c = reached_block _ _ _ _ _ (c.loop-done.invariant.walked.reached _ (get_among _ _ _ c.at-number.ensures))

pub overflow_add-words : goal.overflow_add-words
overflow_add-words c =
    let small : c.loop-done.words + c.look_into-words.result < 2 ^ 64 = no_overflow _ _ _ _ c.loop-done.done _ _ _ c.loop-done.found c.len.ensures.set (omega (arith, c.requires.room, c.loop-done.invariant.room)) (omega (arith, c.loop-done-test.true, c.len.ensures.length)) c.at-number.ensures c.loop-done.invariant.walked c.loop-done.invariant.words c.look_into-words.ensures.size in
    search rules

pub loop-done-smaller : goal.loop-done-smaller
loop-done-smaller c =
    omega (arith, c.loop-done-test.true, c.len.ensures.length, c.len.ensures.set.few, c.loop-done.invariant.room)

pub loop-done-preserved : goal.loop-done-preserved
loop-done-preserved c =
    record {
      room = c.look_into-words.ensures.room ∙ c.loop-done.invariant.room;
      within = omega (arith, c.loop-done-test.true, c.len.ensures.length, adds_longer _ _ _ c.look_into-words.ensures.adds);
      walked = walked_more _ _ _ _ _ _ _ _ (omega (arith, c.loop-done-test.true, c.len.ensures.length)) c.at-number.ensures c.loop-done.invariant.walked c.look_into-words.ensures.adds;
      words = words_more _ _ _ c.args.roots.now _ _ _ _ _ _ (omega (arith, c.loop-done-test.true, c.len.ensures.length)) c.at-number.ensures c.look_into-words.ensures.adds c.loop-done.invariant.words c.look_into-words.ensures.size;
    }

pub returns-clause-room : goal.returns-clause-room
returns-clause-room c = c.loop-done.invariant.room

pub returns-clause-count : goal.returns-clause-count
returns-clause-count c = walked_all _ _ _ _ _ _ _ (omega (arith, c.loop-done-test.false, c.len.ensures.length)) c.loop-done.invariant.within c.len.ensures.set.distinct c.loop-done.invariant.walked c.loop-done.invariant.words
