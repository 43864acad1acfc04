use Rattle.infer_nodes.proofs.Schemes.{deref_made}
use Rattle.infer_nodes.proofs.primitive.deref.Goals as goal

pub returns : goal.returns
returns c =
    deref_made c.args.next.now c.args.types.now c.new_one.new.next c.new_one.new.types c.at_one.new.types c.function.new.types c.in_ok-var.var c.in_ok-from.from c.function.result c.in_ok-var.ensures.added c.in_ok-var.ensures.is c.in_ok-from.ensures c.function.ensures
