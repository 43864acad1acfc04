use Rattle.infer_nodes.proofs.Schemes.{equal_made}
use Rattle.infer_nodes.proofs.primitive.equality.Goals as goal

pub returns : goal.returns
returns c =
    equal_made c.args.next.now c.args.types.now c.new_one.new.next c.new_one.new.types c.two.new.types c.constant.new.types c.function.new.types c.in_ok-var.var c.in_ok-from.from c.in_ok-to.to c.function.result c.in_ok-var.ensures.added c.in_ok-var.ensures.is c.in_ok-from.ensures c.in_ok-to.ensures c.function.ensures
