use Rattle.std.proofs.Common.{◌++◌}
use Rattle.std.specs.Prelude.{codes}
use Rattle.std.specs.Fmt.{decimal}
use Rattle.elf_static.specs.Kinds.{word_of as word_of_kind}
use Rattle.smlc_jobs.specs.Texts.{newline}
use Rattle.smlc_jobs.proofs.Written.{said-behind, said-stopped}
use Rattle.smlc_jobs.proofs.outcome.say_not_elf.Goals as goal

pub returns-in-Ok-clause-said : goal.returns-in-Ok-clause-said
returns-in-Ok-clause-said g c =
    let t = g.E.Sink.taken in
    let f = g.E.Sink.faults in
    said-behind (codes "not elf " ++ word_of_kind c.args.kind) (codes " at " ++ decimal c.args.at ++ newline) 8 c.say_line.result (f c.args.err.now) (f c.write_both.new.sink) (f c.say_line.new.err) (t c.args.err.now) (t c.write_both.new.sink) (t c.say_line.new.err)
    (rw (c.as_bytes.ensures.value, c.word.ensures) at c.in-Ok.ensures.whole) c.in-Ok.ensures.cause (rw (c.as_bytes-in-Ok.ensures.value, c.format-number.ensures.text) at c.say_line.ensures.said)

pub returns-in-Err-clause-said : goal.returns-in-Err-clause-said
returns-in-Err-clause-said g c =
    let t = g.E.Sink.taken in
    let f = g.E.Sink.faults in
    said-stopped (codes "not elf " ++ word_of_kind c.args.kind) (codes " at " ++ decimal c.args.at ++ newline) 8 (f c.args.err.now) (f c.write_both.new.sink) c.in-Err.field-0 (t c.args.err.now) (t c.write_both.new.sink)
    (rw (c.as_bytes.ensures.value, c.word.ensures) at c.in-Err.ensures.whole) c.in-Err.ensures.cause
