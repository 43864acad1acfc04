use Rattle.std.proofs.Common.{refl}
use Rattle.smlc_top.specs.Clause.{want}
use Rattle.smlc_jobs.proofs.Faults.{came_none}
use Rattle.smlc_top.proofs.Jobs.{gen_written, gen_cut}
use Rattle.smlc_top.proofs.top.generate.Goals as goal

pub returns-in-Ok-write_whole-clause-performed : goal.returns-in-Ok-write_whole-clause-performed
returns-in-Ok-write_whole-clause-performed g c = λ store i e told input err.
    gen_written c.args.number c.args.size told input store i e (g.O.Sink.faults c.args.out.now) (g.O.Sink.faults c.write_whole.new.sink) (g.O.Sink.taken c.args.out.now) (g.O.Sink.taken c.write_whole.new.sink) err c.in-Ok-write_whole.field-0
    (rw c.in-Ok.ensures at (rw c.deref.ensures.value at c.in-Ok-write_whole.ensures.whole)) c.in-Ok-write_whole.ensures.cause

pub returns-in-Ok-clause-performed : goal.returns-in-Ok-clause-performed
returns-in-Ok-clause-performed g c = λ store i e told input err.
    gen_cut c.args.number c.args.size told input store i e (g.O.Sink.faults c.args.out.now) (g.O.Sink.faults c.write_whole.new.sink) (g.O.Sink.taken c.args.out.now) (g.O.Sink.taken c.write_whole.new.sink) err c.in-Err-write_whole.field-0
    (rw c.in-Ok.ensures at (rw c.deref.ensures.value at c.in-Err-write_whole.ensures.whole)) c.in-Err-write_whole.ensures.cause

pub returns-clause-performed : goal.returns-clause-performed
returns-clause-performed g c = λ store i e told input err. came_none (g.O.Sink.taken c.args.out.now) err _ (want refl refl (λ files t. t) (λ bytes h. h) (record { store = refl; input = refl; out = refl; err = refl }))
