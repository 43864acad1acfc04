use Rattle.std.proofs.Common.{◌≡◌, ◌+◌, refl, sym, ap, ◌∙◌, arith}
use Rattle.smlc_base.specs.declared.place.Place.{Place}
use Rattle.sml_tree.specs.declared.tree_node.TreeNode.TheVariants as node
use Rattle.sml_tree.specs.Parts.{parts_of}
use Rattle.sml_expansion.specs.Sources.{IsAt, node_at}
use Rattle.sml_expansion.specs.Terms.{Term, two}
use Rattle.sml_expansion.proofs.Shapes.{node_is, as_two}
use Rattle.expand_patterns.proofs.Behind.{if_ok}
use Rattle.sml_expansion.specs.Clauses.{patterns_in}
use Rattle.expand_patterns.proofs.BindLemmas.{count_alone}
use Rattle.expand_patterns.proofs.heads.+patterns_in.Goals as goal

pub loop-first-preserved : goal.loop-first-preserved
loop-first-preserved t c =
    let s = c.args.parsed.now in
    let l = c.loop-first in
    let is : node_at s l.rest ≡ node.MoreAtpats = sym c.in-MoreAtpats.ensures in
    let part = λ (p : Place) (a b : Term) (j : IsAt s l.rest (two node.MoreAtpats p a b)). c.two-first.ensures.parts node.MoreAtpats p a b j in (
      omega (arith, c.two-first.ensures.below (ap parts_of is)),
      λ t' h.
          let u = l.invariant.1 t' h in
          let Onward : Term → Type 0 = λ v. patterns_in t' ≡ l.count + patterns_in v → (x : Term) × (IsAt s c.two-first.result.1 x × (patterns_in t' ≡ c.in_ok-count.count + patterns_in x)) in
          as_two s l.rest u.0 node.MoreAtpats u.1.0 is refl Onward
          (λ p a b j e.
          let more = c.in_ok-more.ensures a (part p a b j).0 in
          (b, ((part p a b j).1, omega (arith, e, more, c.in_ok-count.ensures))))
          u.1.1,
    )

pub returns : goal.returns
returns t c =
    let s = c.args.parsed.now in
    let l = c.loop-first in
    if_ok c.sum-2.result
    (λ k h t' i.
    let u = l.invariant.1 t' i in
    let is = c.node.ensures ∙ node_is s l.rest u.0 u.1.0 in
    let alone : patterns_in u.0 ≡ 1 = count_alone u.0 (λ e. c.in_default.not-MoreAtpats (is ∙ e)) in
    omega (arith, h, u.1.1, alone))
    c.sum-2.ensures
