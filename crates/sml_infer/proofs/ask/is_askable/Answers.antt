use Rattle.std.proofs.Common.{refl}
use Rattle.sml_infer.specs.Going.{now}
use Rattle.sml_infer.proofs.NextNode.{askable}
use Rattle.sml_infer.proofs.ask.is_askable.Goals as goal

pub returns-then-is_ready : goal.returns-then-is_ready
returns-then-is_ready c t =
    askable c.args.bare.now c.args.limit (now c.args.work.now) c.args.node c.args.at.now c.as_slice.result.now c.as_slice.ensures.value (λ forms k h. c.if-is_ready.ensures forms k refl h) (c.is_placed.ensures.names t) (c.is_placed.ensures.types t)
