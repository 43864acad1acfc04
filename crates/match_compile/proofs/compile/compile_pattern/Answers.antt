use Rattle.std.proofs.Common.{◌≡◌, ◌<◌, ◌++◌, reverse, sym, subst, []}
use Rattle.match_laws.specs.Compile.{tests, names}
use Rattle.match_compile.specs.Walk.{total, turns}
use Rattle.match_compile.proofs.Walk.{over, fewer_turns, tests_turn, names_turn}
use Rattle.match_compile.proofs.compile.compile_pattern.Goals as goal

pub loop-task-smaller : goal.loop-task-smaller
loop-task-smaller c =
    subst (λ ps. total (turns c.args.nodes.now) (reverse c.turn.new.work.items) < total (turns c.args.nodes.now) (reverse ps)) (sym c.in-Some.ensures.items)
    (fewer_turns c.args.tables.now.names c.args.nodes.now c.requires c.pop.new.self.items c.turn.new.work.items c.in-Some.task c.in_ok-turn.ensures.work)

pub loop-task-preserved : goal.loop-task-preserved
loop-task-preserved c = record {
  tested = tests_turn c.args.tables.now.names c.args.nodes.now c.requires c.pop.new.self.items c.turn.new.work.items c.in-Some.task c.loop-task.found.items c.turn.new.found.items (tests c.args.tables.now.names c.args.nodes.now c.args.pat []) c.in_ok-turn.ensures.work c.in_ok-turn.ensures.found
      (subst (λ ps. c.loop-task.found.items ++ over (tests c.args.tables.now.names c.args.nodes.now) (reverse ps) ≡ tests c.args.tables.now.names c.args.nodes.now c.args.pat []) c.in-Some.ensures.items c.loop-task.invariant.tested);
  bound = names_turn c.args.tables.now.names c.args.nodes.now c.requires c.pop.new.self.items c.turn.new.work.items c.in-Some.task c.loop-task.bound.items c.turn.new.bound.items (names c.args.nodes.now c.args.pat []) c.in_ok-turn.ensures.work c.in_ok-turn.ensures.bound
      (subst (λ ps. c.loop-task.bound.items ++ over (names c.args.nodes.now) (reverse ps) ≡ names c.args.nodes.now c.args.pat []) c.in-Some.ensures.items c.loop-task.invariant.bound);
}

pub loop-task-smaller-in_ok-turn : goal.loop-task-smaller-in_ok-turn
loop-task-smaller-in_ok-turn c =
    subst (λ ps. total (turns c.args.nodes.now) (reverse c.turn.new.work.items) < total (turns c.args.nodes.now) (reverse ps)) (sym c.in-Some.ensures.items)
    (fewer_turns c.args.tables.now.names c.args.nodes.now c.requires c.pop.new.self.items c.turn.new.work.items c.in-Some.task c.in_ok-turn.ensures.work)

pub loop-task-preserved-in_ok-turn : goal.loop-task-preserved-in_ok-turn
loop-task-preserved-in_ok-turn c = record {
  tested = tests_turn c.args.tables.now.names c.args.nodes.now c.requires c.pop.new.self.items c.turn.new.work.items c.in-Some.task c.loop-task.found.items c.turn.new.found.items (tests c.args.tables.now.names c.args.nodes.now c.args.pat []) c.in_ok-turn.ensures.work c.in_ok-turn.ensures.found
      (subst (λ ps. c.loop-task.found.items ++ over (tests c.args.tables.now.names c.args.nodes.now) (reverse ps) ≡ tests c.args.tables.now.names c.args.nodes.now c.args.pat []) c.in-Some.ensures.items c.loop-task.invariant.tested);
  bound = names_turn c.args.tables.now.names c.args.nodes.now c.requires c.pop.new.self.items c.turn.new.work.items c.in-Some.task c.loop-task.bound.items c.turn.new.bound.items (names c.args.nodes.now c.args.pat []) c.in_ok-turn.ensures.work c.in_ok-turn.ensures.bound
      (subst (λ ps. c.loop-task.bound.items ++ over (names c.args.nodes.now) (reverse ps) ≡ names c.args.nodes.now c.args.pat []) c.in-Some.ensures.items c.loop-task.invariant.bound);
}
