-- The nodes of a bare tree can be gone through by themselves.
use Rattle.std.proofs.Common.{◌≡◌, ℕ, ◌<◌, Bool, true, false, List, [], ◌∷◌, length, Option, Some, None, refl, ap, ◌∙◌}
use Rattle.std.specs.Prelude.{slice_get, map}
use Rattle.std.specs.List.{AllByRecursion}
use Rattle.std.specs.Option.{option_map}
use Rattle.sml_tree.specs.declared.bare.Bare.{Bare}
use Rattle.sml_tree.specs.declared.bare.Binding.{Binding}
use Rattle.sml_tree.specs.declared.bare.Field.{Field}
use Rattle.sml_tree.specs.declared.bare.Rule.{Rule}
use Rattle.sml_tree.specs.declared.bare.Node.{Node}
use Rattle.sml_tree.specs.declared.bare.Node.TheVariants as node
use Rattle.sml_tree.specs.BareParts.{node_parts}
use Rattle.sml_tree.specs.IsBare.{IsBare, Sort, Expression, Pattern, Declaration, sort_of, IsOf, HasRules, HasSorts}
use Rattle.infer_parts.proofs.Forms.{at_all}
use Rattle.infer_scopes.specs.Prefix.{near_parts, binding_parts, is_binder, is_binder_at, IsPrefix}

-- ---- What binds

abbrev binds : Sort → Bool
binds Expression = false
binds Pattern = true
binds Declaration = true

-- patterns and declarations bind
by_sort : (n : Node) → is_binder n ≡ binds (sort_of n)
by_sort node.Wild = refl
by_sort _ = refl

sorted : (o : Option Node) (s : Sort) → option_map sort_of o ≡ Some s → is_binder_at o ≡ binds s
sorted None s e = cc
sorted (Some n) s e = let same : sort_of n ≡ s = cc in by_sort n ∙ ap binds same

module _ (nodes : List Node) where
  abbrev Binds : ℕ → Type 0
  Binds i = is_binder_at (slice_get nodes i) ≡ true

  pattern_binds : (i : ℕ) → IsOf nodes Pattern i → Binds i
  pattern_binds i h = sorted (slice_get nodes i) Pattern h

  declaration_binds : (i : ℕ) → IsOf nodes Declaration i → Binds i
  declaration_binds i h = sorted (slice_get nodes i) Declaration h

  rules_bind : (rules : List Rule) → HasRules nodes rules → AllByRecursion Binds (map (λ r. r.pat) rules)
  rules_bind [] h = tt
  rules_bind (r ∷ rules) h = (pattern_binds r.pat h.0.0, rules_bind rules h.1)

  fields_bind : (fields : List Field) → AllByRecursion (λ f. IsOf nodes Pattern f.node) fields → AllByRecursion Binds (map (λ l. l.node) fields)
  fields_bind [] h = tt
  fields_bind (l ∷ fields) h = (pattern_binds l.node h.0, fields_bind fields h.1)

  bindings_bind : (bindings : List Binding) → AllByRecursion (λ b. IsOf nodes Pattern b.pat × IsOf nodes Expression b.right) bindings → AllByRecursion Binds (map (λ b. b.pat) bindings)
  bindings_bind [] h = tt
  bindings_bind (b ∷ bindings) h = (pattern_binds b.pat h.0.0, bindings_bind bindings h.1)

  -- the parts whose names a node asks for
  node_binds : (n : Node) → HasSorts nodes n → AllByRecursion Binds (binding_parts n)
  node_binds (node.Case e rules) h = rules_bind rules h.1
  node_binds (node.Fn rules) h = rules_bind rules h
  node_binds (node.Handle e rules) h = rules_bind rules h.1
  node_binds (node.Let d e) h = (declaration_binds d h.0, tt)
  node_binds (node.PatApp k q) h = (pattern_binds q h, tt)
  node_binds (node.PatRecord fields) h = fields_bind fields h
  node_binds (node.PatTyped q j) h = (pattern_binds q h, tt)
  node_binds (node.PatAs x q) h = (pattern_binds q h, tt)
  node_binds (node.Val us bindings) h = bindings_bind bindings h
  node_binds _ h = tt

-- ---- Where parts are

node_near : (P : ℕ → Type 0) (n : Node) → AllByRecursion P (node_parts n) → AllByRecursion P (near_parts n)
node_near P (node.Let d e) h = (h.0, tt)
node_near P _ h = h

each_below : (i count : ℕ) (cs : List ℕ) → AllByRecursion (λ c. (i < c) × (c < count)) cs → AllByRecursion (λ c. c < count) cs
each_below i count [] h = tt
each_below i count (c ∷ cs) h = (h.0.1, each_below i count cs h.1)

-- all nodes of a bare tree
pub whole : (p : Bare) → IsBare p → IsPrefix p.nodes (length p.nodes)
whole p bare =
    record {
      parts = λ i n l e. each_below i (length p.nodes) (near_parts n) (node_near (λ c. (i < c) × (c < length p.nodes)) n (bare.numbered i n e));
      binders = λ i n l e. node_binds p.nodes n (at_all (HasSorts p.nodes) p.nodes i n bare.sorts e);
    }
