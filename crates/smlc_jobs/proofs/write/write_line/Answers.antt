use Rattle.std.proofs.Common.{◌++◌}
use Rattle.smlc_jobs.specs.Texts.{newline}
use Rattle.smlc_jobs.proofs.Written.{whole-both, whole-stopped}
use Rattle.smlc_jobs.proofs.write.write_line.Goals as goal

pub returns-in-Ok-clause-whole : goal.returns-in-Ok-clause-whole
returns-in-Ok-clause-whole g c =
    let t = g.S.Sink.taken in
    whole-both (c.args.first.now ++ c.args.second.now) newline c.write_whole.result (t c.args.sink.now) (t c.write_both.new.sink) (t c.write_whole.new.sink) c.in-Ok.ensures.whole c.write_whole.ensures.whole

pub returns-in-Err-clause-whole : goal.returns-in-Err-clause-whole
returns-in-Err-clause-whole g c =
    let t = g.S.Sink.taken in
    whole-stopped (c.args.first.now ++ c.args.second.now) newline c.in-Err.failed (t c.args.sink.now) (t c.write_both.new.sink) c.in-Err.ensures.whole
