use Rattle.std.proofs.Common.{List, sym, subst}
use Rattle.std.specs.Prelude.{Ok}
use Rattle.sml_tree.specs.declared.bare.Rule.{Rule}
use Rattle.sml_tree.specs.declared.bare.Node.{Node}
use Rattle.sml_unify.specs.Solved.{under}
use Rattle.infer_state.specs.Variables.{node_var}
use Rattle.infer_nodes.specs.Posed.{Says}
use Rattle.infer_nodes.specs.Asked.{PosesRule, MatchAsks}
use Rattle.infer_nodes.proofs.Ruled.{case_posed}
use Rattle.infer_nodes.proofs.matches.case_rule.Goals as goal

pub returns : goal.returns
returns c d settled i next b s =
    subst
    (λ (n : Node). PosesRule c.args.bare.now d settled i n next c.args.types.now next c.args.types.now (Ok c.in_ok-pairs.pairs))
    (sym c.in-Case.is)
    (λ abbreviations agree. case_posed c.args.bare.now d.tables.names next c.args.types.now c.in-Case.rules c.in_ok-from.from c.args.at (node_var c.args.bare.now c.in-Case.subject) (node_var c.args.bare.now i) c.in_ok-pairs.pairs b c.in_ok-from.ensures s (subst (λ (rs : List Rule). Says c.args.types.now (λ f. MatchAsks c.args.bare.now f rs (under c.args.types.now f c.in_ok-from.from.0) (under c.args.types.now f c.args.at.0)) c.in_ok-pairs.pairs) c.items.ensures c.in_ok-pairs.ensures))
