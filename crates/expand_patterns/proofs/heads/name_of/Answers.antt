use Rattle.std.proofs.Common.{sym, ◌∙◌, refl, subst}
use Rattle.sml_tree.specs.declared.tree_node.TreeNode.TheVariants as node
use Rattle.sml_expansion.specs.Terms.{Term}
use Rattle.sml_expansion.specs.Sources.{IsAt}
use Rattle.sml_expansion.specs.Clauses.{name_of}
use Rattle.sml_expansion.proofs.Shapes.{node_is, as_two, as_three, as_four}
use Rattle.expand_patterns.proofs.HeadLemmas.{name_same}
use Rattle.expand_patterns.proofs.heads.name_of.Goals as goal

pub returns-in-Head : goal.returns-in-Head
returns-in-Head c t h =
    let Here = λ (u : Term). IsAt c.args.parsed.now c.two.result.0 (name_of u) in
    as_two c.args.parsed.now c.args.at t node.Head h (sym c.in-Head.ensures) refl Here (λ p a b i. (c.two.ensures.parts node.Head p a b i).0)

pub returns-in-InfixHead : goal.returns-in-InfixHead
returns-in-InfixHead c t h =
    let Here = λ (u : Term). IsAt c.args.parsed.now c.three.result.1 (name_of u) in
    as_three c.args.parsed.now c.args.at t node.InfixHead h (sym c.in-InfixHead.ensures) refl Here (λ p a b d i. (c.three.ensures.parts node.InfixHead p a b d i).1)

pub returns-in-ParenHead : goal.returns-in-ParenHead
returns-in-ParenHead c t h =
    let Here = λ (u : Term). IsAt c.args.parsed.now c.three-in-ParenHead.result.1 (name_of u) in
    as_three c.args.parsed.now c.args.at t node.ParenHead h (sym c.in-ParenHead.ensures) refl Here (λ p a b d i. (c.three-in-ParenHead.ensures.parts node.ParenHead p a b d i).1)

pub returns-in-ParenHeadArgs : goal.returns-in-ParenHeadArgs
returns-in-ParenHeadArgs c t h =
    let Here = λ (u : Term). IsAt c.args.parsed.now c.four.result.1 (name_of u) in
    as_four c.args.parsed.now c.args.at t node.ParenHeadArgs h (sym c.in-ParenHeadArgs.ensures) refl Here (λ p a b d e i. (c.four.ensures.parts node.ParenHeadArgs p a b d e i).1)

pub returns-in_default : goal.returns-in_default
returns-in_default c t h =
    let is = c.node.ensures ∙ node_is c.args.parsed.now c.args.at t h in
    subst (λ u. IsAt c.args.parsed.now c.args.at u)
    (sym (name_same t (λ e. c.in_default.not-Head (is ∙ e)) (λ e. c.in_default.not-InfixHead (is ∙ e)) (λ e. c.in_default.not-ParenHead (is ∙ e)) (λ e. c.in_default.not-ParenHeadArgs (is ∙ e)))) h
