use Rattle.std.proofs.Common.{sym, ◌∙◌, refl, subst}
use Rattle.sml_tree.specs.declared.tree_node.TreeNode.TheVariants as node
use Rattle.sml_expansion.specs.Terms.{Term}
use Rattle.sml_expansion.specs.Sources.{IsAt}
use Rattle.sml_expansion.specs.Clauses.{head}
use Rattle.sml_expansion.proofs.Shapes.{node_is, as_two, as_three}
use Rattle.expand_patterns.proofs.HeadLemmas.{head_same}
use Rattle.expand_patterns.proofs.heads.head.Goals as goal

pub returns-in-Clause : goal.returns-in-Clause
returns-in-Clause c t h =
    let Here = λ (u : Term). IsAt c.args.parsed.now c.two.result.0 (head u) in
    as_two c.args.parsed.now c.args.at t node.Clause h (sym c.in-Clause.ensures) refl Here (λ p a b i. (c.two.ensures.parts node.Clause p a b i).0)

pub returns-in-TypedClause : goal.returns-in-TypedClause
returns-in-TypedClause c t h =
    let Here = λ (u : Term). IsAt c.args.parsed.now c.three.result.0 (head u) in
    as_three c.args.parsed.now c.args.at t node.TypedClause h (sym c.in-TypedClause.ensures) refl Here (λ p a b d i. (c.three.ensures.parts node.TypedClause p a b d i).0)

pub returns-in_default : goal.returns-in_default
returns-in_default c t h =
    let is = c.node.ensures ∙ node_is c.args.parsed.now c.args.at t h in
    subst (λ u. IsAt c.args.parsed.now c.args.at u) (sym (head_same t (λ e. c.in_default.not-Clause (is ∙ e)) (λ e. c.in_default.not-TypedClause (is ∙ e)))) h
