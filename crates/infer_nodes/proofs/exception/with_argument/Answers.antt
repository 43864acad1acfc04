use Rattle.infer_nodes.proofs.Constructed.{exn_made}
use Rattle.infer_nodes.proofs.exception.with_argument.Goals as goal

pub returns : goal.returns
returns c =
    exn_made c.args.next.now c.args.types.now c.new_one.new.next c.new_one.new.types c.constant.new.types c.function.new.types c.in_ok-arg.arg c.in_ok-exn.exn c.function.result c.in_ok-arg.ensures.added c.in_ok-arg.ensures.is c.in_ok-exn.ensures c.function.ensures
