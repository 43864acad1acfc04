use Rattle.infer_nodes.specs.Asked.{ConAt}
use Rattle.infer_nodes.proofs.Constructed.{at_function}
use Rattle.infer_nodes.proofs.constructor.constructs.Goals as goal

pub returns : goal.returns
returns c v w s r =
    at_function c.args.declared.now.tables.names (λ f u. ConAt c.args.bare.now c.args.types.now c.args.declared.now.tables.names f c.args.con u) c.args.next.now c.args.types.now c.con_type.new.next c.con_type.new.types c.function.new.types c.con_type.new.pairs c.push.new.self c.in_ok-made.made c.in_ok-left.left c.args.from c.args.to v w c.requires.below s r c.in_ok-made.ensures c.in_ok-left.ensures c.in_ok-push.ensures.ok
