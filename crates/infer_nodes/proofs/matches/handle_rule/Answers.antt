use Rattle.std.proofs.Common.{rules, ◌<◌, List, length, sym, subst}
use Rattle.std.specs.Prelude.{Ok}
use Rattle.sml_tree.specs.declared.bare.Rule.{Rule}
use Rattle.sml_tree.specs.declared.bare.Node.TheVariants as node
use Rattle.sml_tree.specs.declared.bare.Node.{Node}
use Rattle.sml_types.specs.Forms.{AreForms}
use Rattle.infer_nodes.specs.Asked.{PosesRule}
use Rattle.infer_nodes.proofs.Ruled.{handle_posed}
use Rattle.infer_nodes.proofs.matches.handle_rule.Goals as goal

pub returns : goal.returns
returns c d settled i next b s =
    let forms : AreForms c.args.types.now = search rules in
    let some : 0 < length c.items-rules.result.now = search rules in
    subst
    (λ (n : Node). PosesRule c.args.bare.now d settled i n next c.args.types.now next c.constant.new.types (Ok c.push-2.new.self))
    (sym c.in-Handle.is)
    (subst
    (λ (rs : List Rule). PosesRule c.args.bare.now d settled i (node.Handle c.in-Handle.body rs) next c.args.types.now next c.constant.new.types (Ok c.push-2.new.self))
    c.items-rules.ensures
    (λ abbreviations agree. handle_posed c.args.bare.now d.tables.names i c.in-Handle.body next c.args.types.now c.constant.new.types c.items-rules.result.now _ c.in_ok-from.from c.in_ok-body.body c.args.at c.in_ok-exn.exn c.in_ok-pairs.pairs c.push.new.self c.push-2.new.self some forms b s c.in_ok-from.ensures c.in_ok-body.ensures c.in_ok-pairs.ensures c.in_ok-push.ensures.ok c.in_ok-exn.ensures c.in_ok-push-2.ensures.ok))
