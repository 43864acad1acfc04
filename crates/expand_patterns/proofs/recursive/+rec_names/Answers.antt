use Rattle.std.proofs.Common.{◌≡◌, Bool, true, List, [], refl, sym, ap, ◌∙◌, subst, arith}
use Rattle.sml_tree.specs.declared.tree_node.TreeNode.TheVariants as node
use Rattle.sml_tree.specs.Parts.{parts_of}
use Rattle.sml_expansion.specs.declared.scope.Bound.{Bound}
use Rattle.sml_expansion.specs.declared.walk.Walk.{Walk}
use Rattle.sml_expansion.specs.Bindings.{rec_names}
use Rattle.sml_expansion.specs.Makings.{Makes, gives}
use Rattle.sml_expansion.specs.Scopes.{scope_of}
use Rattle.sml_expansion.specs.Sources.{IsAt, node_at}
use Rattle.sml_expansion.specs.Terms.{Term, two}
use Rattle.sml_expansion.proofs.Shapes.{node_is, as_one, as_two}
use Rattle.expand_patterns.specs.Expands.{Binds}
use Rattle.expand_patterns.proofs.Behind.{if_ok}
use Rattle.expand_patterns.proofs.BindLemmas.{bind_alike, both_names_bound, nothing_bound, no_names}
use Rattle.expand_patterns.proofs.recursive.+rec_names.Goals as goal

pub loop-behind-preserved-in-Rec : goal.loop-behind-preserved-in-Rec
loop-behind-preserved-in-Rec t c =
    let s = c.args.parsed.now in
    let l = c.loop-behind in
    let is : node_at s l.rest ≡ node.Rec = sym c.in-Rec.ensures in (
      omega (arith, c.one-rest.ensures.below (ap parts_of is)),
      λ t' h.
          let u = l.invariant.1 t' h in
          let Onward : Term → Type 0 = λ x. ((v : Walk) (d : List Bound) → Binds s.names (λ m. rec_names m l.behind x) l.walk v l.bound.items d → Binds s.names (λ m. rec_names m c.args.inside t') c.args.walk.now v c.args.bound.now.items d) → (y : Term) × (IsAt s c.one-rest.result y × ((v : Walk) (d : List Bound) → Binds s.names (λ m. rec_names m true y) l.walk v l.bound.items d → Binds s.names (λ m. rec_names m c.args.inside t') c.args.walk.now v c.args.bound.now.items d)) in
          as_one s l.rest u.0 node.Rec u.1.0 is refl Onward (λ p a j on. (a, (c.one-rest.ensures.part node.Rec p a j, on))) u.1.1,
    )

pub loop-behind-preserved : goal.loop-behind-preserved
loop-behind-preserved t c =
    let s = c.args.parsed.now in
    let l = c.loop-behind in
    let is : node_at s l.rest ≡ node.MoreValBinds = sym c.in-MoreValBinds.ensures in (
      omega (arith, c.two-first.ensures.below (ap parts_of is)),
      λ t' h.
          let u = l.invariant.1 t' h in
          let Onward : Term → Type 0 = λ x. ((v : Walk) (d : List Bound) → Binds s.names (λ m. rec_names m l.behind x) l.walk v l.bound.items d → Binds s.names (λ m. rec_names m c.args.inside t') c.args.walk.now v c.args.bound.now.items d) → (y : Term) × (IsAt s c.two-first.result.1 y × ((v : Walk) (d : List Bound) → Binds s.names (λ m. rec_names m l.behind y) c.rec_names.new.walk v c.rec_names.new.bound.items d → Binds s.names (λ m. rec_names m c.args.inside t') c.args.walk.now v c.args.bound.now.items d)) in
          as_two s l.rest u.0 node.MoreValBinds u.1.0 is refl Onward
          (λ p a b j on.
          let parts = c.two-first.ensures.parts node.MoreValBinds p a b j in
          (b, (parts.1, λ v d e. on v d (both_names_bound s.names l.behind p a b l.walk c.rec_names.new.walk v l.bound.items c.rec_names.new.bound.items d (c.in_ok-rec_names-in-MoreValBinds.ensures a parts.0) e))))
          u.1.1,
    )

pub returns-then-behind : goal.returns-then-behind
returns-then-behind t c =
    let s = c.args.parsed.now in
    let l = c.loop-behind in
    if_ok c.rec_name.result
    (λ k r t' h.
    let u = l.invariant.1 t' h in
    let Here : Term → Type 0 = λ x. Binds s.names (λ m. rec_names m l.behind x) l.walk c.rec_name.new.walk l.bound.items c.rec_name.new.bound.items in
    u.1.1 c.rec_name.new.walk c.rec_name.new.bound.items
    (as_two s l.rest u.0 node.ValBind u.1.0 (sym c.in-ValBind.ensures) refl Here
    (λ p a b j.
    let part = (c.two-pattern.ensures.parts node.ValBind p a b j).0 in
    subst (λ (o : Bool). Binds s.names (λ m. rec_names m o (two node.ValBind p a b)) l.walk c.rec_name.new.walk l.bound.items c.rec_name.new.bound.items) (sym c.if-behind.true) (r a a part part))))
    c.rec_name.ensures

pub returns-in-ValBind : goal.returns-in-ValBind
returns-in-ValBind t c t' h =
    let s = c.args.parsed.now in
    let l = c.loop-behind in
    let u = l.invariant.1 t' h in
    let Here : Term → Type 0 = λ x. Binds s.names (λ m. rec_names m l.behind x) l.walk l.walk l.bound.items l.bound.items in
    u.1.1 l.walk l.bound.items
    (as_two s l.rest u.0 node.ValBind u.1.0 (sym c.in-ValBind.ensures) refl Here
    (λ p a b j. subst (λ (o : Bool). Binds s.names (λ m. rec_names m o (two node.ValBind p a b)) l.walk l.walk l.bound.items l.bound.items) (sym c.if-behind.false) (nothing_bound s.names l.walk l.bound.items)))

pub returns-in_default : goal.returns-in_default
returns-in_default t c t' h =
    let s = c.args.parsed.now in
    let l = c.loop-behind in
    let u = l.invariant.1 t' h in
    let is = c.node.ensures ∙ node_is s l.rest u.0 u.1.0 in
    u.1.1 l.walk l.bound.items
    (bind_alike s.names (λ m. gives []) (λ m. rec_names m l.behind u.0) l.walk l.walk l.bound.items l.bound.items
    (ap (λ (f : Makes (List Bound)). f l.walk.made) (no_names (scope_of s.names l.walk.bindings) l.behind u.0 (λ e. c.in_default.not-Rec (is ∙ e)) (λ e. c.in_default.not-MoreValBinds (is ∙ e)) (λ e. c.in_default.not-ValBind (is ∙ e))))
    (nothing_bound s.names l.walk l.bound.items))
