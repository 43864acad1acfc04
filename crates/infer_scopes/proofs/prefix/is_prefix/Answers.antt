use Rattle.std.proofs.Common.{List, subst}
use Rattle.sml_tree.specs.declared.bare.Node.{Node}
use Rattle.sml_tree.specs.BareParts.{IsNumbered}
use Rattle.infer_scopes.specs.Prefix.{IsPrefix}
use Rattle.infer_scopes.proofs.PrefixFacts.{one_more_good, all_numbered, all_prefix}
use Rattle.infer_scopes.proofs.prefix.is_prefix.Goals as goal

pub nodes-preserved : goal.nodes-preserved
nodes-preserved c = one_more_good c.items-nodes.result.now c.args.count c.nodes.at c.nodes.invariant (c.in_ok-is_good.ensures c.if-not-branch.false)

pub returns-clause-numbered : goal.returns-clause-numbered
returns-clause-numbered c _ =
    subst (λ (ns : List Node). IsNumbered ns) c.items-nodes.ensures (all_numbered c.items-nodes.result.now c.args.count c.nodes.at c.nodes-test.false c.nodes.invariant)

pub returns-clause-prefix : goal.returns-clause-prefix
returns-clause-prefix c _ =
    subst (λ (ns : List Node). IsPrefix ns c.args.count) c.items-nodes.ensures (all_prefix c.items-nodes.result.now c.args.count c.nodes.at c.nodes-test.false c.nodes.invariant)
