use Rattle.std.proofs.Common.{◌≡◌, List, refl, sym, ap, ◌∙◌, arith}
use Rattle.smlc_base.specs.declared.place.Place.{Place}
use Rattle.sml_tree.specs.declared.tree_node.TreeNode.TheVariants as node
use Rattle.sml_tree.specs.Parts.{parts_of}
use Rattle.sml_expansion.specs.declared.walk.Walk.{Walk}
use Rattle.sml_expansion.specs.Sources.{IsAt, node_at}
use Rattle.sml_expansion.specs.Terms.{Term, two}
use Rattle.sml_expansion.proofs.Shapes.{node_is, as_two}
use Rattle.expand_patterns.proofs.Behind.{if_ok}
use Rattle.sml_expansion.specs.Clauses.{clause_refusals}
use Rattle.expand_patterns.proofs.BindLemmas.{broken, broken_both}
use Rattle.expand_patterns.proofs.clauses.+refuse_clauses.Goals as goal

pub loop-first-preserved : goal.loop-first-preserved
loop-first-preserved t c =
    let s = c.args.parsed.now in
    let l = c.loop-first in
    let is : node_at s l.rest ≡ node.MoreClauses = sym c.in-MoreClauses.ensures in
    let part = λ (p : Place) (a b : Term) (j : IsAt s l.rest (two node.MoreClauses p a b)). c.two-first.ensures.parts node.MoreClauses p a b j in
    let All : Term → List _ = λ v. clause_refusals s.names c.args.function c.args.count v in (
      omega (arith, c.two-first.ensures.below (ap parts_of is)),
      λ t' h.
          let u = l.invariant.1 t' h in
          let Onward : Term → Type 0 = λ x. ((v : Walk) → v ≡ broken (All x) l.walk → v ≡ broken (All t') c.args.walk.now) → (y : Term) × (IsAt s c.two-first.result.1 y × ((v : Walk) → v ≡ broken (All y) c.refuse_clauses.new.walk → v ≡ broken (All t') c.args.walk.now)) in
          as_two s l.rest u.0 node.MoreClauses u.1.0 is refl Onward
          (λ p a b j on. (b, ((part p a b j).1, λ v e. on v (broken_both (All a) (All b) l.walk c.refuse_clauses.new.walk v (c.in_ok-refuse_clauses.ensures a (part p a b j).0) e))))
          u.1.1,
    )

pub returns : goal.returns
returns t c =
    let s = c.args.parsed.now in
    let l = c.loop-first in
    if_ok c.refuse_clause.result
    (λ k h t' i.
    let u = l.invariant.1 t' i in
    let is = c.node.ensures ∙ node_is s l.rest u.0 u.1.0 in
    u.1.1 c.refuse_clause.new.walk (h u.0 u.1.0 (λ e. c.in_default.not-MoreClauses (is ∙ e))))
    c.refuse_clause.ensures
