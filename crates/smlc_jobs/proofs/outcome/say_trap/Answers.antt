use Rattle.std.proofs.Common.{◌++◌}
use Rattle.std.specs.Prelude.{codes}
use Rattle.std.specs.Int.{w32, w64, to_be_bytes}
use Rattle.hex.specs.Hex.{encode_lower}
use Rattle.smlc_jobs.specs.Texts.{newline}
use Rattle.smlc_jobs.proofs.Written.{said-behind, said-stopped}
use Rattle.smlc_jobs.proofs.outcome.say_trap.Goals as goal

pub returns-in-Ok-clause-said : goal.returns-in-Ok-clause-said
returns-in-Ok-clause-said g c =
    let t = g.E.Sink.taken in
    let f = g.E.Sink.faults in
    said-behind (codes "trap " ++ encode_lower (to_be_bytes w64 c.args.pc)) (codes " " ++ encode_lower (to_be_bytes w32 c.args.word) ++ newline) 9 c.say_line.result (f c.args.err.now) (f c.write_both.new.sink) (f c.say_line.new.err) (t c.args.err.now) (t c.write_both.new.sink) (t c.say_line.new.err)
    (rw c.double_digits-pc_digits.ensures at c.in-Ok.ensures.whole) c.in-Ok.ensures.cause (rw c.word_digits-word_digits.ensures at c.say_line.ensures.said)

pub returns-in-Err-clause-said : goal.returns-in-Err-clause-said
returns-in-Err-clause-said g c =
    let t = g.E.Sink.taken in
    let f = g.E.Sink.faults in
    said-stopped (codes "trap " ++ encode_lower (to_be_bytes w64 c.args.pc)) (codes " " ++ encode_lower (to_be_bytes w32 c.args.word) ++ newline) 9 (f c.args.err.now) (f c.write_both.new.sink) c.in-Err.field-0 (t c.args.err.now) (t c.write_both.new.sink)
    (rw c.double_digits-pc_digits.ensures at c.in-Err.ensures.whole) c.in-Err.ensures.cause
