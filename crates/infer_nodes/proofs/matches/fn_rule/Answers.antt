use Rattle.std.proofs.Common.{rules, ◌<◌, List, length, sym, subst, ap}
use Rattle.std.specs.Prelude.{Ok}
use Rattle.sml_tree.specs.declared.bare.Rule.{Rule}
use Rattle.sml_tree.specs.declared.bare.Node.TheVariants as node
use Rattle.sml_tree.specs.declared.bare.Node.{Node}
use Rattle.sml_types.specs.Forms.{AreForms}
use Rattle.infer_nodes.specs.Asked.{PosesRule}
use Rattle.infer_nodes.proofs.Ruled.{fn_posed}
use Rattle.infer_nodes.proofs.matches.fn_rule.Goals as goal

pub returns : goal.returns
returns c d settled i next b s =
    let forms : AreForms c.args.types.now = search rules in
    let some : 0 < length c.items-rules.result.now = search rules in
    subst
    (λ (n : Node). PosesRule c.args.bare.now d settled i n next c.args.types.now next c.function.new.types (Ok c.push.new.self))
    (sym c.in-Fn.is)
    (subst
    (λ (rs : List Rule). PosesRule c.args.bare.now d settled i (node.Fn rs) next c.args.types.now next c.function.new.types (Ok c.push.new.self))
    c.items-rules.ensures
    (λ abbreviations agree. fn_posed c.args.bare.now d.tables.names i next c.args.types.now c.function.new.types c.items-rules.result.now _ c.in_ok-from.from c.in_ok-to.to c.args.at c.in_ok-made.made c.in_ok-pairs.pairs c.push.new.self some forms b s c.in_ok-from.ensures c.in_ok-to.ensures c.in_ok-pairs.ensures c.in_ok-made.ensures c.in_ok-push.ensures.ok))
