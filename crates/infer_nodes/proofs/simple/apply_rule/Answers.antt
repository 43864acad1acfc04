use Rattle.std.proofs.Common.{rules, sym, subst}
use Rattle.std.specs.Prelude.{Ok}
use Rattle.sml_tree.specs.declared.bare.Node.{Node}
use Rattle.sml_types.specs.Forms.{AreForms}
use Rattle.infer_nodes.specs.Asked.{PosesRule}
use Rattle.infer_nodes.proofs.Ruled.{applied_posed}
use Rattle.infer_nodes.proofs.simple.apply_rule.Goals as goal

pub returns : goal.returns
returns c d settled i next b s =
    let forms : AreForms c.args.types.now = search rules in
    subst
    (λ (n : Node). PosesRule c.args.bare.now d settled i n next c.args.types.now next c.function.new.types (Ok c.in_ok-pairs.pairs))
    (sym c.in-App.is)
    (λ abbreviations agree. applied_posed c.args.bare.now d settled i d.tables.names c.in-App.left c.in-App.right next c.args.types.now c.function.new.types c.in_ok-left.left c.in_ok-right.right c.args.at c.in_ok-made.made c.in_ok-pairs.pairs forms b s c.in_ok-left.ensures c.in_ok-right.ensures c.in_ok-pairs.ensures c.in_ok-made.ensures)
