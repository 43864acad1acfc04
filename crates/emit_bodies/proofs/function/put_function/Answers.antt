use Rattle.std.proofs.Common.{◌<◌, arith}
use Rattle.placed_ir.specs.Program.{code_at}
use Rattle.emit_bodies.proofs.Frames.{some_frame}
use Rattle.emit_bodies.proofs.function.put_function.Goals as goal

pub returns-in_ok-frame_in_front : goal.returns-in_ok-frame_in_front
returns-in_ok-frame_in_front c =
    let some : 0 < c.args.function.frame = omega (arith, c.if-function-eq0.false) in
    some_frame c.args.labels.now (code_at c.args.bodies.now c.args.function.body) c.args.text.now c.put_body.new.text c.args.function.frame c.frame_in_front.new.text some c.in_ok-put_body.ensures c.in_ok-frame_in_front.ensures
