use Rattle.std.proofs.Common.{◌≡◌, arith, refl, sym, ap, None}
use Rattle.rv_machine.specs.Progress.{Progress}
use Rattle.rv_machine.specs.declared.hart.End.TheVariants as ended
use Rattle.smlc_jobs.specs.declared.outcome.Outcome.TheVariants as outcome
use Rattle.smlc_jobs.specs.Runs.{tally, intake}
use Rattle.smlc_jobs.specs.Execute.{exited, went_on, trapped, had_no_memory, input_fault, out_fault, err_fault}
use Rattle.smlc_jobs.proofs.Running.{came_did, run_exit, run_trapped, run_stopped, read_midway, write_midway}
use Rattle.smlc_jobs.proofs.Faults.{all_same, came_none, same_counts, err_failed, err_stands, rose_same}
use Rattle.smlc_jobs.proofs.execute.run_image.Goals as goal

pub returns-in_default-clause-ran : goal.returns-in_default-clause-ran
returns-in_default-clause-ran g c = λ store. came_none (g.O.Sink.taken c.args.out.now) (g.E.Sink.taken c.args.err.now) _ (had_no_memory refl refl (λ bytes h. h) (all_same _))

pub returns-in-Exit-clause-ran : goal.returns-in-Exit-clause-ran
returns-in-Exit-clause-ran g c = λ store.
    let fresh : c.in-Ok.machine.ended ≡ None = ap (λ (p : Progress). p.ended) c.in-Ok.ensures in
    came_did c.args.image.now c.args.steps c.in-Ok.machine.state c.run.new.self.state (g.I.Source.left c.args.input.now) (g.I.Source.left c.run.new.input) (g.O.Sink.taken c.args.out.now) (g.O.Sink.taken c.run.new.out) (g.E.Sink.taken c.args.err.now) (g.E.Sink.taken c.run.new.err) (ended.Exit c.in-Exit.status)
    (ap (λ (p : Progress). p.state) c.in-Ok.ensures) (c.in-Exit.ensures.runs fresh) (tally store (g.I.Source.faults c.args.input.now) (g.O.Sink.faults c.args.out.now) (g.E.Sink.faults c.args.err.now)) (tally store (g.I.Source.faults c.run.new.input) (g.O.Sink.faults c.run.new.out) (g.E.Sink.faults c.run.new.err)) (outcome.Exited c.in-Exit.status c.reg.result c.reg-in-Exit.result)
    (λ w e d. exited c.in-Exit.status c.reg.result c.reg-in-Exit.result (run_exit c.args.image.now (intake (g.I.Source.left c.args.input.now) (g.I.Source.left c.run.new.input)) c.args.steps c.run.new.self.state w e c.in-Exit.status c.reg.result c.reg-in-Exit.result c.reg.ensures c.reg-in-Exit.ensures d) (same_counts store (g.I.Source.faults c.args.input.now) (g.I.Source.faults c.run.new.input) (g.O.Sink.faults c.args.out.now) (g.O.Sink.faults c.run.new.out) (g.E.Sink.faults c.args.err.now) (g.E.Sink.faults c.run.new.err) (c.in-Exit.ensures.counts fresh)))

pub returns-in-Trap-clause-ran : goal.returns-in-Trap-clause-ran
returns-in-Trap-clause-ran g c = λ store.
    let fresh : c.in-Ok.machine.ended ≡ None = ap (λ (p : Progress). p.ended) c.in-Ok.ensures in
    came_did c.args.image.now c.args.steps c.in-Ok.machine.state c.run.new.self.state (g.I.Source.left c.args.input.now) (g.I.Source.left c.run.new.input) (g.O.Sink.taken c.args.out.now) (g.O.Sink.taken c.run.new.out) (g.E.Sink.taken c.args.err.now) (g.E.Sink.taken c.run.new.err) (ended.Trap c.in-Trap.pc c.in-Trap.word)
    (ap (λ (p : Progress). p.state) c.in-Ok.ensures) (c.in-Trap.ensures.runs fresh) (tally store (g.I.Source.faults c.args.input.now) (g.O.Sink.faults c.args.out.now) (g.E.Sink.faults c.args.err.now)) (tally store (g.I.Source.faults c.run.new.input) (g.O.Sink.faults c.run.new.out) (g.E.Sink.faults c.run.new.err)) (outcome.Trapped c.in-Trap.pc c.in-Trap.word)
    (λ w e d. trapped c.in-Trap.pc c.in-Trap.word (run_trapped c.args.image.now (intake (g.I.Source.left c.args.input.now) (g.I.Source.left c.run.new.input)) c.args.steps c.run.new.self.state w e c.in-Trap.pc c.in-Trap.word d) (same_counts store (g.I.Source.faults c.args.input.now) (g.I.Source.faults c.run.new.input) (g.O.Sink.faults c.args.out.now) (g.O.Sink.faults c.run.new.out) (g.E.Sink.faults c.args.err.now) (g.E.Sink.faults c.run.new.err) (c.in-Trap.ensures.counts fresh)))

pub returns-in-Steps-clause-ran : goal.returns-in-Steps-clause-ran
returns-in-Steps-clause-ran g c = λ store.
    let fresh : c.in-Ok.machine.ended ≡ None = ap (λ (p : Progress). p.ended) c.in-Ok.ensures in
    came_did c.args.image.now c.args.steps c.in-Ok.machine.state c.run.new.self.state (g.I.Source.left c.args.input.now) (g.I.Source.left c.run.new.input) (g.O.Sink.taken c.args.out.now) (g.O.Sink.taken c.run.new.out) (g.E.Sink.taken c.args.err.now) (g.E.Sink.taken c.run.new.err) ended.Steps
    (ap (λ (p : Progress). p.state) c.in-Ok.ensures) (c.in-Steps.ensures.runs fresh) (tally store (g.I.Source.faults c.args.input.now) (g.O.Sink.faults c.args.out.now) (g.E.Sink.faults c.args.err.now)) (tally store (g.I.Source.faults c.run.new.input) (g.O.Sink.faults c.run.new.out) (g.E.Sink.faults c.run.new.err)) (outcome.Steps c.args.steps)
    (λ w e d. went_on (run_stopped c.args.image.now (intake (g.I.Source.left c.args.input.now) (g.I.Source.left c.run.new.input)) c.args.steps c.run.new.self.state w e d) (same_counts store (g.I.Source.faults c.args.input.now) (g.I.Source.faults c.run.new.input) (g.O.Sink.faults c.args.out.now) (g.O.Sink.faults c.run.new.out) (g.E.Sink.faults c.args.err.now) (g.E.Sink.faults c.run.new.err) (c.in-Steps.ensures.counts fresh)))

pub returns-in-ReadFault-clause-ran : goal.returns-in-ReadFault-clause-ran
returns-in-ReadFault-clause-ran g c = λ store.
    let fresh : c.in-Ok.machine.ended ≡ None = ap (λ (p : Progress). p.ended) c.in-Ok.ensures in
    came_did c.args.image.now c.args.steps c.in-Ok.machine.state c.run.new.self.state (g.I.Source.left c.args.input.now) (g.I.Source.left c.run.new.input) (g.O.Sink.taken c.args.out.now) (g.O.Sink.taken c.run.new.out) (g.E.Sink.taken c.args.err.now) (g.E.Sink.taken c.run.new.err) ended.ReadFault
    (ap (λ (p : Progress). p.state) c.in-Ok.ensures) (c.in-ReadFault.ensures.runs fresh) (tally store (g.I.Source.faults c.args.input.now) (g.O.Sink.faults c.args.out.now) (g.E.Sink.faults c.args.err.now)) (tally store (g.I.Source.faults c.run.new.input) (g.O.Sink.faults c.run.new.out) (g.E.Sink.faults c.run.new.err)) outcome.InputFault
    (λ w e d. input_fault (c.in-ReadFault.ensures.counts fresh).0 (let h = (c.in-ReadFault.ensures.counts fresh).2 in omega (arith, h)) (read_midway c.args.image.now (intake (g.I.Source.left c.args.input.now) (g.I.Source.left c.run.new.input)) c.args.steps c.run.new.self.state w e d))

pub returns-then-rose-clause-ran : goal.returns-then-rose-clause-ran
returns-then-rose-clause-ran g c = λ store.
    let fresh : c.in-Ok.machine.ended ≡ None = ap (λ (p : Progress). p.ended) c.in-Ok.ensures in
    came_did c.args.image.now c.args.steps c.in-Ok.machine.state c.run.new.self.state (g.I.Source.left c.args.input.now) (g.I.Source.left c.run.new.input) (g.O.Sink.taken c.args.out.now) (g.O.Sink.taken c.run.new.out) (g.E.Sink.taken c.args.err.now) (g.E.Sink.taken c.run.new.err) ended.WriteFault
    (ap (λ (p : Progress). p.state) c.in-Ok.ensures) (c.in-WriteFault.ensures.runs fresh) (tally store (g.I.Source.faults c.args.input.now) (g.O.Sink.faults c.args.out.now) (g.E.Sink.faults c.args.err.now)) (tally store (g.I.Source.faults c.run.new.input) (g.O.Sink.faults c.run.new.out) (g.E.Sink.faults c.run.new.err)) outcome.OutFault
    (λ w e d. out_fault (rose_same c.faults-before.result c.faults.result (g.O.Sink.faults c.args.out.now) (g.O.Sink.faults c.run.new.out) c.faults-before.ensures c.faults.ensures (c.rose.ensures.0 c.if-rose.true)) (err_stands (g.I.Source.faults c.args.input.now) (g.I.Source.faults c.run.new.input) (g.O.Sink.faults c.args.out.now) (g.O.Sink.faults c.run.new.out) (g.E.Sink.faults c.args.err.now) (g.E.Sink.faults c.run.new.err) (c.in-WriteFault.ensures.counts fresh)) (write_midway c.args.image.now (intake (g.I.Source.left c.args.input.now) (g.I.Source.left c.run.new.input)) c.args.steps c.run.new.self.state w e d))

pub returns-clause-ran : goal.returns-clause-ran
returns-clause-ran g c = λ store.
    let fresh : c.in-Ok.machine.ended ≡ None = ap (λ (p : Progress). p.ended) c.in-Ok.ensures in
    came_did c.args.image.now c.args.steps c.in-Ok.machine.state c.run.new.self.state (g.I.Source.left c.args.input.now) (g.I.Source.left c.run.new.input) (g.O.Sink.taken c.args.out.now) (g.O.Sink.taken c.run.new.out) (g.E.Sink.taken c.args.err.now) (g.E.Sink.taken c.run.new.err) ended.WriteFault
    (ap (λ (p : Progress). p.state) c.in-Ok.ensures) (c.in-WriteFault.ensures.runs fresh) (tally store (g.I.Source.faults c.args.input.now) (g.O.Sink.faults c.args.out.now) (g.E.Sink.faults c.args.err.now)) (tally store (g.I.Source.faults c.run.new.input) (g.O.Sink.faults c.run.new.out) (g.E.Sink.faults c.run.new.err)) outcome.ErrFault
    (λ w e d. err_fault (err_failed (g.I.Source.faults c.args.input.now) (g.I.Source.faults c.run.new.input) (g.O.Sink.faults c.args.out.now) (g.O.Sink.faults c.run.new.out) (g.E.Sink.faults c.args.err.now) (g.E.Sink.faults c.run.new.err) (c.in-WriteFault.ensures.counts fresh) (λ h. let t = c.rose.ensures.1 (rose_same (g.O.Sink.faults c.args.out.now) (g.O.Sink.faults c.run.new.out) c.faults-before.result c.faults.result (sym c.faults-before.ensures) (sym c.faults.ensures) h) in let f = c.if-rose.false in absurd (cc))) (write_midway c.args.image.now (intake (g.I.Source.left c.args.input.now) (g.I.Source.left c.run.new.input)) c.args.steps c.run.new.self.state w e d))
