-- What a typing has where a declaration is closed or a match is entered.
use Rattle.std.proofs.Common.{◌≡◌, ◌<◌, ℕ, Option, Some, None, List, [], ◌∷◌, true, refl, flat_map, map}
use Rattle.std.specs.Prelude.{slice_get}
use Rattle.std.specs.List.{AllByRecursion}
use Rattle.sml_tree.specs.declared.bare.Bare.{Bare}
use Rattle.sml_tree.specs.declared.bare.Rule.{Rule}
use Rattle.sml_tree.specs.declared.bare.Binding.{Binding}
use Rattle.sml_tree.specs.declared.bare.Node.{Node}
use Rattle.sml_tree.specs.declared.bare.Node.TheVariants as node
use Rattle.sml_tree.specs.BareParts.{rule_parts}
use Rattle.sml_types.specs.Typing.{Typing}
use Rattle.infer_state.specs.Names.{names_bound}
use Rattle.infer_scopes.specs.Prefix.{is_binder_at, near_parts, binding_parts, IsPrefix}
use Rattle.infer_closing.specs.Closing.{HasBinds, HasMatchBinds, HasBindsMatched}
use Rattle.sml_infer.specs.Going.{IsLawful}

module _ (p : Bare) (count : ℕ) (t : Typing) (lawful : IsLawful p count t) (prefix : IsPrefix p.nodes count) where
  bound_at_node : (i : ℕ) (o : Option Node) → slice_get p.nodes i ≡ o → i < count → is_binder_at o ≡ true → t.binds i ≡ names_bound p.nodes i
  bound_at_node i None e l b = absurd cc
  bound_at_node i (Some n) e l b = lawful.binds i n l e b

  -- a pattern binds the names that stand in it
  bound_there : (i : ℕ) → i < count → is_binder_at (slice_get p.nodes i) ≡ true → t.binds i ≡ names_bound p.nodes i
  bound_there i l b = bound_at_node i (slice_get p.nodes i) refl l b

  of_bindings : (bindings : List Binding) → AllByRecursion (λ c. c < count) (flat_map (λ b. b.pat ∷ b.right ∷ []) bindings) → AllByRecursion (λ c. is_binder_at (slice_get p.nodes c) ≡ true) (map (λ b. b.pat) bindings) → AllByRecursion (λ b. t.binds b.pat ≡ names_bound p.nodes b.pat) bindings
  of_bindings [] h k = tt
  of_bindings (b ∷ bindings) h k = (bound_there b.pat h.0 k.0, of_bindings bindings h.1.1 k.1)

  of_rules : (rules : List Rule) → AllByRecursion (λ c. c < count) (flat_map rule_parts rules) → AllByRecursion (λ c. is_binder_at (slice_get p.nodes c) ≡ true) (map (λ r. r.pat) rules) → HasMatchBinds p t rules
  of_rules [] h k = tt
  of_rules (r ∷ rules) h k = (bound_there r.pat h.0 k.0, of_rules rules h.1.1 k.1)

  pub has_binds : (i : ℕ) (n : Node) → i < count → slice_get p.nodes i ≡ Some n → HasBinds p t n
  has_binds i n l e = by_node n (prefix.parts i n l e) (prefix.binders i n l e)
    where
      by_node : (n : Node) → AllByRecursion (λ c. c < count) (near_parts n) → AllByRecursion (λ c. is_binder_at (slice_get p.nodes c) ≡ true) (binding_parts n) → HasBinds p t n
      by_node (node.Val us bindings) h k = of_bindings bindings h k
      by_node _ h k = tt

  pub has_matched : (i : ℕ) (n : Node) → i < count → slice_get p.nodes i ≡ Some n → HasBindsMatched p t n
  has_matched i n l e = by_node n (prefix.parts i n l e) (prefix.binders i n l e)
    where
      by_node : (n : Node) → AllByRecursion (λ c. c < count) (near_parts n) → AllByRecursion (λ c. is_binder_at (slice_get p.nodes c) ≡ true) (binding_parts n) → HasBindsMatched p t n
      by_node (node.Case e rules) h k = of_rules rules h.1 k
      by_node (node.Fn rules) h k = of_rules rules h k
      by_node (node.Handle e rules) h k = of_rules rules h.1 k
      by_node _ h k = tt
