use Rattle.std.proofs.Common.{◌≡◌, ◌<◌, ◌++◌, None, reverse, sym, subst}
use Rattle.cps_ir.specs.Program.{code_at}
use Rattle.cps_ir.specs.Slim.{layouts}
use Rattle.cps_free.specs.Rows.{AreFree}
use Rattle.cps_free.proofs.Unfold.{AreNumbered}
use Rattle.lifetime_users.specs.Users.{bindings}
use Rattle.cps_survey.proofs.Turns.{over, total, AllLayouts, AllBindings, AllTurns, layouts_turn, bindings_turn, fewer_turns}
use Rattle.cps_survey.proofs.walk.survey_of.Goals as goal

pub loop-task-smaller : goal.loop-task-smaller
loop-task-smaller c =
    let bodies = c.bodies-bodies.result.now in
    let numbered : AreNumbered bodies = subst AreNumbered (sym c.bodies-bodies.ensures.bodies) c.bodies-bodies.ensures.kept.numbered in
    let free : AreFree bodies 0 c.args.frees.now = subst (λ bs. AreFree bs 0 c.args.frees.now) (sym c.bodies-bodies.ensures.bodies) c.requires in
    let count = AllTurns bodies numbered c.args.frees.now free in
    subst (λ ps. total count (reverse c.turn.new.work.items) < total count (reverse ps)) (sym c.in-Some.ensures.items)
    (fewer_turns bodies numbered c.args.frees.now free c.pop.new.self.items c.turn.new.work.items c.in-Some.task c.in_ok-turn.ensures.work)

pub loop-task-preserved : goal.loop-task-preserved
loop-task-preserved c =
    let bodies = c.bodies-bodies.result.now in
    let frees = c.args.frees.now in
    let numbered : AreNumbered bodies = subst AreNumbered (sym c.bodies-bodies.ensures.bodies) c.bodies-bodies.ensures.kept.numbered in
    let free : AreFree bodies 0 frees = subst (λ bs. AreFree bs 0 frees) (sym c.bodies-bodies.ensures.bodies) c.requires in
    record {
      found =
          layouts_turn bodies numbered frees free c.pop.new.self.items c.turn.new.work.items c.in-Some.task c.loop-task.layouts.items c.turn.new.layouts.items (layouts (code_at bodies 0)) c.in_ok-turn.ensures.work c.in_ok-turn.ensures.layouts
          (subst (λ ps. c.loop-task.layouts.items ++ over (AllLayouts bodies numbered frees free) (reverse ps) ≡ layouts (code_at bodies 0)) c.in-Some.ensures.items c.loop-task.invariant.found);
      bound =
          bindings_turn bodies numbered frees free c.pop.new.self.items c.turn.new.work.items c.in-Some.task c.loop-task.bindings.items c.turn.new.bindings.items (bindings None (code_at bodies 0)) c.in_ok-turn.ensures.work c.in_ok-turn.ensures.bindings
          (subst (λ ps. c.loop-task.bindings.items ++ over (AllBindings bodies numbered frees free) (reverse ps) ≡ bindings None (code_at bodies 0)) c.in-Some.ensures.items c.loop-task.invariant.bound);
    }
