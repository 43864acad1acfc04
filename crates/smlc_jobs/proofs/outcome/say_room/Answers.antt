use Rattle.std.proofs.Common.{◌++◌}
use Rattle.std.specs.Prelude.{codes}
use Rattle.std.specs.Fmt.{decimal}
use Rattle.smlc_jobs.specs.Texts.{newline}
use Rattle.smlc_jobs.proofs.Written.{said-behind, said-stopped}
use Rattle.smlc_jobs.proofs.outcome.say_room.Goals as goal

pub returns-in-Ok-clause-said : goal.returns-in-Ok-clause-said
returns-in-Ok-clause-said g c =
    let t = g.E.Sink.taken in
    let f = g.E.Sink.faults in
    said-behind (codes " next " ++ decimal c.args.next) (codes " of " ++ decimal c.args.arena ++ newline) 3 c.say_number.result (f c.args.err.now) (f c.write_number.new.err) (f c.say_number.new.err) (t c.args.err.now) (t c.write_number.new.err) (t c.say_number.new.err)
    c.in-Ok.ensures.whole c.in-Ok.ensures.cause c.say_number.ensures.said

pub returns-in-Err-clause-said : goal.returns-in-Err-clause-said
returns-in-Err-clause-said g c =
    let t = g.E.Sink.taken in
    let f = g.E.Sink.faults in
    said-stopped (codes " next " ++ decimal c.args.next) (codes " of " ++ decimal c.args.arena ++ newline) 3 (f c.args.err.now) (f c.write_number.new.err) c.in-Err.field-0 (t c.args.err.now) (t c.write_number.new.err)
    c.in-Err.ensures.whole c.in-Err.ensures.cause
