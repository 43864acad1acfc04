-- What a typing has at a node, of what is looked at.
use Rattle.std.proofs.Common.{◌≡◌, ℕ, ◌<◌, true, List, [], ◌∷◌, Option, Some, None, refl, subst, map, flat_map}
use Rattle.std.specs.Prelude.{slice_get}
use Rattle.std.specs.List.{AllByRecursion}
use Rattle.sml_tree.specs.declared.bare.Bare.{Bare}
use Rattle.sml_tree.specs.declared.bare.Rule.{Rule}
use Rattle.sml_tree.specs.declared.bare.Node.{Node}
use Rattle.sml_tree.specs.declared.bare.Node.TheVariants as node
use Rattle.sml_tree.specs.BareParts.{rule_parts}
use Rattle.sml_types.specs.Tree.{Tree}
use Rattle.sml_types.specs.Escape.{AreKnown}
use Rattle.sml_types.specs.Poly.{Context}
use Rattle.sml_types.specs.Typing.{Typing, IsMatch, AreExplicit, IsTypedNode, IsTypingBelow}
use Rattle.infer_state.specs.Names.{names_bound}
use Rattle.infer_scopes.specs.Prefix.{near_parts, binding_parts, is_binder, is_binder_at, IsPrefix}
use Rattle.infer_checks.specs.Node.{IsMatchKnown, IsDeclarationKnown, Asks}

module _ (p : Bare) (t : Typing) (count : ℕ) (typing : IsTypingBelow p t count) (prefix : IsPrefix p.nodes count) (binds : (i : ℕ) (n : Node) → i < count → slice_get p.nodes i ≡ Some n → is_binder n ≡ true → t.binds i ≡ names_bound p.nodes i) where
  bound_at_node : (i : ℕ) (o : Option Node) → slice_get p.nodes i ≡ o → i < count → is_binder_at o ≡ true → t.binds i ≡ names_bound p.nodes i
  bound_at_node i None e l b = absurd cc
  bound_at_node i (Some n) e l b = binds i n l e b

  rules_known : (c : Context) (a b : Tree) (rules : List Rule) → IsMatch p t rules c a b → AllByRecursion (λ k. k < count) (flat_map rule_parts rules) → AllByRecursion (λ k. is_binder_at (slice_get p.nodes k) ≡ true) (map (λ r. r.pat) rules) → IsMatchKnown p t c rules
  rules_known c a b [] h l k = tt
  rules_known c a b (r ∷ rules) h l k = (
    subst (AreKnown t.schemes c.type_names) (bound_at_node r.pat (slice_get p.nodes r.pat) refl l.0 k.0) h.0.3,
    rules_known c a b rules h.1 l.1.1 k.1,
  )

  declaration_known : (us : List ℕ) (c : Context) (i : ℕ) → t.binds i ≡ names_bound p.nodes i → AreExplicit p t us c (t.binds i) → AreKnown t.schemes c.type_names (t.binds i) → IsDeclarationKnown p t us c i
  declaration_known us c i e h k = (
    subst (λ (xs : List ℕ). AreExplicit p t us c xs) e h,
    subst (λ (xs : List ℕ). AreKnown t.schemes c.type_names xs) e k,
  )

  by_node : (i : ℕ) (c : Context) (n : Node) → AllByRecursion (λ k. k < count) (near_parts n) → AllByRecursion (λ k. is_binder_at (slice_get p.nodes k) ≡ true) (binding_parts n) → (is_binder n ≡ true → t.binds i ≡ names_bound p.nodes i) → IsTypedNode p t c (t.types i) (t.binds i) n → Asks p t c i n
  by_node i c (node.Case e rules) l k b h = rules_known c h.0 (t.types i) rules h.2 l.1 k
  by_node i c (node.Fn rules) l k b h = rules_known c h.0 h.1 rules h.3 l k
  by_node i c (node.Handle e rules) l k b h = rules_known c _ (t.types i) rules h.1 l.1 k
  by_node i c (node.Let d e) l k b h = h.2
  by_node i c (node.Val us bindings) l k b h = declaration_known us c i (b refl) h.2 h.3
  by_node i c (node.ValRec us bindings) l k b h = declaration_known us c i (b refl) h.2 h.3
  by_node i c _ l k b h = tt

  -- each typing of the nodes has what is looked at
  pub asks : (i : ℕ) (n : Node) (c : Context) → i < count → slice_get p.nodes i ≡ Some n → t.contexts i ≡ c → Asks p t c i n
  asks i n c l e q =
      by_node i c n (prefix.parts i n l e) (prefix.binders i n l e) (λ b. binds i n l e b)
      (subst (λ (x : Context). IsTypedNode p t x (t.types i) (t.binds i) n) q (typing.rules i n l e))
