use Rattle.std.proofs.Common.{rules, ◌≡◌, ◌++◌, ◌∷◌, [], ◌∙◌, sym}
use Rattle.emit_bodies.proofs.Onward.{taken_off, off_less}
use Rattle.emit_bodies.proofs.body.put_body.Goals as goal

pub loop-task-smaller : goal.loop-task-smaller
loop-task-smaller c =
    let e : c.loop-task.tasks.items ≡ c.pop.new.self.items ++ c.in-Some.task ∷ [] = search rules in
    off_less c.args.bodies.now c.requires c.pop.new.self.items c.loop-task.tasks.items c.in-Some.task _ e c.in_ok-do_task.ensures.less

pub loop-task-preserved : goal.loop-task-preserved
loop-task-preserved c =
    let e : c.loop-task.tasks.items ≡ c.pop.new.self.items ++ c.in-Some.task ∷ [] = search rules in
    c.in_ok-do_task.ensures.text ∙ sym (taken_off c.args.labels.now c.args.bodies.now c.pop.new.self.items c.loop-task.tasks.items c.in-Some.task c.loop-task.text e) ∙ c.loop-task.invariant
