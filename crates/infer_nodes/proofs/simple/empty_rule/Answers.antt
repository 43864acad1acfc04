use Rattle.std.proofs.Common.{rules, ◌≡◌, true, sym, subst}
use Rattle.std.specs.Prelude.{Ok}
use Rattle.infer_nodes.specs.Asked.{PosesRule, asks_nothing}
use Rattle.infer_nodes.proofs.Ruled.{nothing_posed}
use Rattle.infer_nodes.proofs.simple.empty_rule.Goals as goal

pub returns : goal.returns
returns c p d settled i next b =
    let known : asks_nothing c.args.node.now ≡ true = search rules in
    subst
    (λ ps. PosesRule p d settled i c.args.node.now next c.args.types.now next c.args.types.now (Ok ps))
    (sym c.no_pairs.ensures)
    (nothing_posed p d settled i c.args.node.now next c.args.types.now known b)
