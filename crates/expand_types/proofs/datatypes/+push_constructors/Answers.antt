use Rattle.std.proofs.Common.{◌≡◌, refl, rules, arith, sym, ap, append_assoc}
use Rattle.std.proofs.lemmas.Result.{on_ok_weaker}
use Rattle.sml_expansion.specs.Bindings.{constructors}
use Rattle.sml_expansion.specs.Scopes.{scope_of}
use Rattle.sml_expansion.specs.Sources.{node_at}
use Rattle.sml_tree.specs.Parts.{parts_of}
use Rattle.sml_tree.specs.declared.tree_node.TreeNode.TheVariants as node
use Rattle.expand_types.proofs.DatatypeLemmas.{behind_them}
use Rattle.expand_types.proofs.SpineLemmas.{left_on, left_end}
use Rattle.expand_types.proofs.datatypes.+push_constructors.Goals as goal

pub loop-first-preserved : goal.loop-first-preserved
loop-first-preserved t c =
    let src = c.args.parsed.now in
    let is : node.MoreConBinds ≡ node_at src c.loop-first.rest = search rules in
    let below = c.two-first.ensures.below (ap parts_of (sym is)) in (
      omega (arith, below.1, c.loop-first.invariant.0),
      left_on src (λ k. constructors (scope_of src.names c.args.bindings.now)) behind_them behind_them (λ s x y. append_assoc s x y) node.MoreConBinds refl (λ k p a b m. refl) 0 c.args.at 0 c.loop-first.rest c.two-first.result.0 c.two-first.result.1 _ _ _ _ _ _ c.loop-first.invariant.1 is c.two-first.ensures.parts c.in_ok-push_constructors.ensures,
    )

pub returns : goal.returns
returns t c =
    let src = c.args.parsed.now in
    let left = c.push_constructor in
    on_ok_weaker left.result (λ h. left_end src (λ k. constructors (scope_of src.names c.args.bindings.now)) behind_them 0 c.args.at 0 c.loop-first.rest _ _ _ _ _ _ c.loop-first.invariant.1 h) left.ensures
