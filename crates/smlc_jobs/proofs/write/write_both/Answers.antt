use Rattle.smlc_jobs.proofs.Written.{whole-both, whole-stopped}
use Rattle.smlc_jobs.proofs.write.write_both.Goals as goal

pub returns-in-Ok-clause-whole : goal.returns-in-Ok-clause-whole
returns-in-Ok-clause-whole g c =
    let t = g.S.Sink.taken in
    whole-both c.args.first.now c.args.second.now c.write_whole-in-Ok.result (t c.args.sink.now) (t c.write_whole.new.sink) (t c.write_whole-in-Ok.new.sink) c.in-Ok.ensures.whole c.write_whole-in-Ok.ensures.whole

pub returns-in-Err-clause-whole : goal.returns-in-Err-clause-whole
returns-in-Err-clause-whole g c =
    let t = g.S.Sink.taken in
    whole-stopped c.args.first.now c.args.second.now c.in-Err.failed (t c.args.sink.now) (t c.write_whole.new.sink) c.in-Err.ensures.whole
