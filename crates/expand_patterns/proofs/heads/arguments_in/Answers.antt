use Rattle.std.proofs.Common.{◌≡◌, ◌+◌, refl, sym, ap, ◌∙◌}
use Rattle.sml_tree.specs.declared.tree_node.TreeNode.TheVariants as node
use Rattle.sml_expansion.specs.Terms.{Term}
use Rattle.sml_expansion.proofs.Shapes.{node_is, as_two, as_four}
use Rattle.expand_patterns.proofs.Behind.{if_ok}
use Rattle.sml_expansion.specs.Clauses.{arguments_in}
use Rattle.expand_patterns.proofs.BindLemmas.{arguments_alone}
use Rattle.expand_patterns.proofs.heads.arguments_in.Goals as goal

pub returns-in-Head : goal.returns-in-Head
returns-in-Head c =
    if_ok c.patterns_in.result
    (λ k h t i.
    let Here : Term → Type 0 = λ u. k ≡ arguments_in u in
    as_two c.args.parsed.now c.args.at t node.Head i (sym c.in-Head.ensures) refl Here (λ p a b j. h b (c.two.ensures.parts node.Head p a b j).1))
    c.patterns_in.ensures

pub returns-in_ok-others-in-ParenHeadArgs : goal.returns-in_ok-others-in-ParenHeadArgs
returns-in_ok-others-in-ParenHeadArgs c =
    if_ok c.sum.result
    (λ k h t i.
    let Here : Term → Type 0 = λ u. k ≡ arguments_in u in
    as_four c.args.parsed.now c.args.at t node.ParenHeadArgs i (sym c.in-ParenHeadArgs.ensures) refl Here (λ p a b d e j. h ∙ ap (λ z. 1 + z) (c.in_ok-others-in-ParenHeadArgs.ensures e (c.four.ensures.parts node.ParenHeadArgs p a b d e j).3)))
    c.sum.ensures

pub returns-in_default : goal.returns-in_default
returns-in_default c t i =
    let is = c.node.ensures ∙ node_is c.args.parsed.now c.args.at t i in
    sym (arguments_alone t (λ e. c.in_default.not-Head (is ∙ e)) (λ e. c.in_default.not-ParenHeadArgs (is ∙ e)))
