use Rattle.std.proofs.Common.{◌≡◌, sym, ◌∙◌, refl, subst}
use Rattle.sml_tree.specs.declared.tree_node.TreeNode.TheVariants as node
use Rattle.sml_expansion.specs.Terms.{Term}
use Rattle.sml_expansion.specs.Sources.{IsAt}
use Rattle.sml_expansion.specs.Clauses.{first_clause}
use Rattle.sml_expansion.proofs.Shapes.{node_is, as_two}
use Rattle.expand_patterns.proofs.HeadLemmas.{first_same}
use Rattle.expand_patterns.proofs.heads.first_clause.Goals as goal

pub loop-first-preserved : goal.loop-first-preserved
loop-first-preserved c t h =
    let s = c.args.parsed.now in
    let u = c.loop-first.invariant t h in
    let Here = λ (v : Term). first_clause t ≡ first_clause v → (w : Term) × (IsAt s c.two-first.result.0 w × (first_clause t ≡ first_clause w)) in
    as_two s c.loop-first.first u.0 node.MoreClauses u.1.0 (sym c.in-MoreClauses.ensures) refl Here (λ p a b i e. (a, ((c.two-first.ensures.parts node.MoreClauses p a b i).0, e))) u.1.1

pub returns : goal.returns
returns c t h =
    let s = c.args.parsed.now in
    let u = c.loop-first.invariant t h in
    let is = c.node.ensures ∙ node_is s c.loop-first.first u.0 u.1.0 in
    let same = u.1.1 ∙ first_same u.0 (λ e. c.in_default.not-MoreClauses (is ∙ e)) in
    subst (λ v. IsAt s c.loop-first.first v) (sym same) u.1.0
