use Rattle.std.proofs.Common.{◌≡◌, List, refl, sym, ◌∙◌, subst}
use Rattle.smlc_base.specs.declared.place.Place.{Place}
use Rattle.sml_tree.specs.declared.tree_node.TreeNode.TheVariants as node
use Rattle.sml_expansion.specs.declared.scope.Bound.{Bound}
use Rattle.sml_expansion.specs.declared.walk.Walk.{Walk}
use Rattle.sml_expansion.specs.Makings.{Makes}
use Rattle.sml_expansion.specs.Scopes.{Scope}
use Rattle.sml_expansion.specs.Sources.{IsAt, node_at}
use Rattle.sml_expansion.specs.Terms.{Term, two}
use Rattle.sml_expansion.proofs.Shapes.{node_is, as_two}
use Rattle.expand_patterns.specs.Expands.{Binds}
use Rattle.expand_patterns.proofs.Behind.{if_ok}
use Rattle.sml_expansion.specs.Clauses.{binds_function, binds_functions}
use Rattle.expand_patterns.proofs.BindLemmas.{both_bind, function_alone}
use Rattle.expand_patterns.proofs.clauses.binds_functions.Goals as goal

pub loop-first-preserved : goal.loop-first-preserved
loop-first-preserved c t' h =
    let s = c.args.parsed.now in
    let l = c.loop-first in
    let is : node_at s l.rest ≡ node.MoreFunBinds = sym c.in-MoreFunBinds.ensures in
    let part = λ (p : Place) (a b : Term) (j : IsAt s l.rest (two node.MoreFunBinds p a b)). c.two-first.ensures.parts node.MoreFunBinds p a b j in
    let u = l.invariant t' h in
    let Onward : Term → Type 0 = λ x. ((v : Walk) (d : List Bound) → Binds s.names (λ m. binds_functions m.names x) l.walk v l.bound.items d → Binds s.names (λ m. binds_functions m.names t') c.args.walk.now v c.args.bound.now.items d)
    → (y : Term) × (IsAt s c.two-first.result.1 y × ((v : Walk) (d : List Bound) → Binds s.names (λ m. binds_functions m.names y) c.binds_function.new.walk v c.binds_function.new.bound.items d → Binds s.names (λ m. binds_functions m.names t') c.args.walk.now v c.args.bound.now.items d)) in
    as_two s l.rest u.0 node.MoreFunBinds u.1.0 is refl Onward
    (λ p a b j on. (b, ((part p a b j).1, λ v d e. on v d (both_bind s.names (λ m. binds_function m.names a) (λ m. binds_functions m.names b) l.walk c.binds_function.new.walk v l.bound.items c.binds_function.new.bound.items d (c.in_ok-binds_function.ensures a (part p a b j).0) e))))
    u.1.1

pub returns : goal.returns
returns c =
    let s = c.args.parsed.now in
    let l = c.loop-first in
    let call = c.binds_function-2 in
    if_ok call.result
    (λ k h t' i.
    let u = l.invariant t' i in
    let is = c.node.ensures ∙ node_is s l.rest u.0 u.1.0 in
    u.1.1 call.new.walk call.new.bound.items
    (subst (λ (f : Scope → Makes (List Bound)). Binds s.names f l.walk call.new.walk l.bound.items call.new.bound.items) (sym (function_alone u.0 (λ e. c.in_default.not-MoreFunBinds (is ∙ e)))) (h u.0 u.1.0)))
    call.ensures
