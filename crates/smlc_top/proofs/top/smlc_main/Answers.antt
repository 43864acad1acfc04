use Rattle.std.specs.Prelude.{map, string_bytes}
use Rattle.smlc_jobs.specs.Texts.{usage_line, memory_line}
use Rattle.smlc_top.specs.Clause.{no_command, no_memory}
use Rattle.smlc_jobs.specs.Runs.{tally, intake}
use Rattle.smlc_top.proofs.Answering.{said_plain}
use Rattle.smlc_top.proofs.top.smlc_main.Goals as goal

pub do_job-requires : goal.do_job-requires
do_job-requires g c = rw c.in-Ok-Some.field-0-is at c.in-Ok-Some.ensures.range

pub returns-in-Ok-Some-clause-answer : goal.returns-in-Ok-Some-clause-answer
returns-in-Ok-Some-clause-answer g c =
    let k = rw c.in-Ok-Some.field-0-is at c.in-Ok-Some.ensures.some in
    c.do_job.ensures.answer (map string_bytes c.args.words.now) k

pub returns-in-Ok-None-clause-answer : goal.returns-in-Ok-None-clause-answer
returns-in-Ok-None-clause-answer g c =
    let k = rw c.in-Ok-None.field-0-is at c.in-Ok-None.ensures.none in
    said_plain (map string_bytes c.args.words.now) (g.F.Store.files c.args.store.now) usage_line 7 (tally (g.F.Store.faults c.args.store.now) (g.I.Source.faults c.args.input.now) (g.O.Sink.faults c.args.out.now) (g.E.Sink.faults c.args.err.now)) (intake (g.I.Source.left c.args.input.now) (g.I.Source.left c.args.input.now)) (g.E.Sink.faults c.say.new.err) c.say.result
    (g.O.Sink.taken c.args.out.now) (g.E.Sink.taken c.args.err.now) (g.E.Sink.taken c.say.new.err) (no_command k) (λ bytes h. h) c.say.ensures.said

pub returns-in-Err-clause-answer : goal.returns-in-Err-clause-answer
returns-in-Err-clause-answer g c =
    said_plain (map string_bytes c.args.words.now) (g.F.Store.files c.args.store.now) memory_line 6 (tally (g.F.Store.faults c.args.store.now) (g.I.Source.faults c.args.input.now) (g.O.Sink.faults c.args.out.now) (g.E.Sink.faults c.args.err.now)) (intake (g.I.Source.left c.args.input.now) (g.I.Source.left c.args.input.now)) (g.E.Sink.faults c.say-in-Err.new.err) c.say-in-Err.result
    (g.O.Sink.taken c.args.out.now) (g.E.Sink.taken c.args.err.now) (g.E.Sink.taken c.say-in-Err.new.err) no_memory (λ bytes h. h) c.say-in-Err.ensures.said
