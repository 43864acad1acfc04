use Rattle.smlc_jobs.specs.Runs.{intake}
use Rattle.smlc_jobs.specs.Execute.{of_image}
use Rattle.smlc_jobs.proofs.Faults.{came_none, came_so}
use Rattle.smlc_jobs.proofs.Running.{unread_executed}
use Rattle.smlc_jobs.proofs.execute.execute.Goals as goal

pub returns-in-Ok-clause-executed : goal.returns-in-Ok-clause-executed
returns-in-Ok-clause-executed g c = λ store.
    came_so (g.O.Sink.taken c.args.out.now) (g.O.Sink.taken c.run_image.new.out) (g.E.Sink.taken c.args.err.now) (g.E.Sink.taken c.run_image.new.err) _ _
    (λ w e h. of_image c.in-Ok.image c.run_image.result c.in-Ok.ensures.ok h) (c.run_image.ensures.ran store)

pub returns-in-Err-clause-executed : goal.returns-in-Err-clause-executed
returns-in-Err-clause-executed g c = λ store.
    came_none (g.O.Sink.taken c.args.out.now) (g.E.Sink.taken c.args.err.now) _
    (rw c.not_read.ensures (unread_executed c.args.bytes.now c.args.steps _ (intake (g.I.Source.left c.args.input.now) (g.I.Source.left c.args.input.now)) c.in-Err.e c.in-Err.ensures.not_elf (λ bytes h. h)))
