use Rattle.std.proofs.Common.{ℕ, refl, sym, subst, arith}
use Rattle.smlc_jobs.specs.Job.{ExecFile}
use Rattle.smlc_top.specs.Clause.{Performed, want, load_failed}
use Rattle.smlc_jobs.specs.Runs.{tally, intake}
use Rattle.smlc_jobs.proofs.Faults.{came_none, came_so}
use Rattle.smlc_jobs.proofs.Held.{first_fails}
use Rattle.smlc_top.proofs.Jobs.{exec_executed}
use Rattle.smlc_top.proofs.top.exec.Goals as goal

pub returns-in-Ok-clause-performed : goal.returns-in-Ok-clause-performed
returns-in-Ok-clause-performed g c =
    came_so (g.O.Sink.taken c.args.out.now) (g.O.Sink.taken c.execute.new.out) (g.E.Sink.taken c.args.err.now) (g.E.Sink.taken c.execute.new.err) _ _
    (λ w e h. subst (λ (n : ℕ). Performed (ExecFile c.args.name.now c.args.steps) (g.F.Store.files c.args.store.now) (g.F.Store.files c.load.new.self) (tally (g.F.Store.faults c.args.store.now) (g.I.Source.faults c.args.input.now) (g.O.Sink.faults c.args.out.now) (g.E.Sink.faults c.args.err.now)) (tally n (g.I.Source.faults c.execute.new.input) (g.O.Sink.faults c.execute.new.out) (g.E.Sink.faults c.execute.new.err)) (intake (g.I.Source.left c.args.input.now) (g.I.Source.left c.execute.new.input)) w e c.execute.result) (sym c.in-Ok.ensures.cause)
    (exec_executed c.args.name.now (g.F.Store.files c.args.store.now) (g.F.Store.files c.load.new.self) c.args.steps c.in-Ok.file.items (tally (g.F.Store.faults c.args.store.now) (g.I.Source.faults c.args.input.now) (g.O.Sink.faults c.args.out.now) (g.E.Sink.faults c.args.err.now)) (tally (g.F.Store.faults c.args.store.now) (g.I.Source.faults c.execute.new.input) (g.O.Sink.faults c.execute.new.out) (g.E.Sink.faults c.execute.new.err)) (intake (g.I.Source.left c.args.input.now) (g.I.Source.left c.execute.new.input)) w e c.execute.result
    (λ files t. c.in-Ok.ensures.told files t) (λ files t. c.in-Ok.ensures.kept files t) (rw c.deref.ensures.value at h)))
    (c.execute.ensures.executed (g.F.Store.faults c.args.store.now))

pub returns-in-Err-NoMemory-clause-performed : goal.returns-in-Err-NoMemory-clause-performed
returns-in-Err-NoMemory-clause-performed g c =
    let k = rw c.in-Err-NoMemory.field-0-is at c.in-Err-NoMemory.ensures.cause in
    came_none (g.O.Sink.taken c.args.out.now) (g.E.Sink.taken c.args.err.now) _ (want refl refl (λ files t. c.in-Err-NoMemory.ensures.kept files t) (λ bytes h. h) (record { store = k; input = refl; out = refl; err = refl }))

pub returns-in-Err-Failed-clause-performed : goal.returns-in-Err-Failed-clause-performed
returns-in-Err-Failed-clause-performed g c =
    let k = rw c.in-Err-Failed.field-0-is at c.in-Err-Failed.ensures.cause in
    came_none (g.O.Sink.taken c.args.out.now) (g.E.Sink.taken c.args.err.now) _ (load_failed 0 (first_fails (g.F.Store.files c.args.store.now) c.args.name.now) k refl refl (λ files t. c.in-Err-Failed.ensures.kept files t) (λ bytes h. h) (omega arith))
