use Rattle.placed_ir.specs.declared.body.Function.{Function}
use Rattle.emit_data.proofs.Loops.{codes_more}
use Rattle.emit_data.proofs.sizes.push_functions.Goals as goal

pub loop-preserved : goal.loop-preserved
loop-preserved c =
    let d : Function = record { body = 0; frame = 0 } in
    codes_more c.args.functions.now c.loop.index d c.args.sizes.now.items c.loop.sizes.items c.push.new.self.items c.loop-test.true c.loop.invariant c.in_ok-push.ensures.items
