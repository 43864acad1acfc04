use Rattle.std.proofs.Common.{sym, subst}
use Rattle.std.specs.Prelude.{Ok}
use Rattle.sml_tree.specs.declared.bare.Node.{Node}
use Rattle.infer_state.specs.Variables.{node_var}
use Rattle.infer_nodes.specs.Asked.{PosesRule}
use Rattle.infer_nodes.proofs.Constructed.{con_rule}
use Rattle.infer_nodes.proofs.constructor.constructor_rule.Goals as goal

pub returns : goal.returns
returns c settled i s =
    subst
    (λ (n : Node). PosesRule c.args.bare.now c.args.declared.now settled i n c.args.next.now c.args.types.now c.constructed.new.next c.constructed.new.types (Ok c.in_ok-pairs.pairs))
    (sym c.in-Constructor.is)
    (con_rule c.args.bare.now c.args.declared.now settled i c.args.next.now c.args.types.now c.constructed.new.next c.constructed.new.types c.in_ok-pairs.pairs c.in-Constructor.con (c.in_ok-pairs.ensures (node_var c.args.bare.now i) s))
