use Rattle.std.proofs.Common.{rules, ◌≡◌, ◌<◌, Some, length, sym, ap, ◌∙◌, subst}
use Rattle.std.specs.Prelude.{slice_get}
use Rattle.std.proofs.lemmas.Option.{slice_get-get_or}
use Rattle.sml_tree.specs.declared.bare.Node.{Node}
use Rattle.infer_nodes.specs.Asked.{PosesRule}
use Rattle.infer_nodes.proofs.Posed.{rule_grown, same_node}
use Rattle.infer_nodes.proofs.dispatch.pose.Goals as goal

pub returns-clause-rule : goal.returns-clause-rule
returns-clause-rule c n e =
    let low : c.args.index < length c.items.result.now = search rules in
    let here = slice_get-get_or c.items.result.now c.args.index c.index-items-index.result low ∙ ap Some (sym c.index-items-index.is) in
    same_node c.args.bare.now c.args.declared.now c.args.settled.now c.args.index c.items.result.now n c.index-items-index.result c.args.next.now c.args.types.now c.any_rule.new.next c.any_rule.new.types c.any_rule.result here c.items.ensures e c.any_rule.ensures

pub returns-clause-grown : goal.returns-clause-grown
returns-clause-grown c =
    rule_grown c.args.bare.now c.args.declared.now c.args.settled.now c.args.index c.index-items-index.result c.args.next.now c.args.types.now c.any_rule.new.next c.any_rule.new.types c.any_rule.result c.any_rule.ensures
