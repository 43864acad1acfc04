-- All names that nodes bind are settled, where those that stand in nodes are.
use Rattle.std.proofs.Common.{◌≡◌, ℕ, zero, suc, ◌+◌, ◌<◌, ◌≤◌, List, [], ◌∷◌, length, Option, Some, None, refl, sym, ap, subst, arith}
use Rattle.std.specs.Prelude.{slice_get, map, flat_map}
use Rattle.std.specs.List.{AllByRecursion}
use Rattle.std.proofs.lemmas.Option.{slice_get_past}
use Rattle.sml_tree.specs.declared.bare.Bare.{Bare}
use Rattle.sml_tree.specs.declared.bare.Field.{Field}
use Rattle.sml_tree.specs.declared.bare.Binding.{Binding}
use Rattle.sml_tree.specs.declared.bare.RecBinding.{RecBinding}
use Rattle.sml_tree.specs.declared.bare.Node.{Node}
use Rattle.sml_tree.specs.declared.bare.Node.TheVariants as node
use Rattle.sml_tree.specs.BareParts.{IsNumbered, node_parts, within, at_node}
use Rattle.sml_types.specs.Poly.{Poly}
use Rattle.sml_types.specs.Typing.{group_names}
use Rattle.sml_unify.proofs.Walks.{all_append}
use Rattle.infer_state.specs.Names.{names_of, names_of_fields, names_of_bindings, names_bound}
use Rattle.infer_scopes.specs.Bound.{own_names, name_parts}
use Rattle.infer_scopes.specs.Prefix.{IsPrefix, near_parts}
use Rattle.infer_scopes.proofs.BoundFacts.{names_at}
use Rattle.infer_laws.specs.Principal.{AreSettledBelow}
use Rattle.infer_closing.proofs.Laws.{at_in}
use Rattle.infer_checks.specs.Bound.{HasScheme, HaveSchemes, HaveSchemesAt}

-- what holds of the name of each binding
pub group_all : (P : ℕ → Type 0) (bindings : List RecBinding) → AllByRecursion (λ b. P b.name.0) bindings → AllByRecursion P (group_names bindings)
group_all P [] h = tt
group_all P (b ∷ bindings) h = (h.0, group_all P bindings h.1)

-- ---- Parts

all_with : (P Q R : ℕ → Type 0) → ((x : ℕ) → P x → Q x → R x) → (xs : List ℕ) → AllByRecursion P xs → AllByRecursion Q xs → AllByRecursion R xs
all_with P Q R f [] h k = tt
all_with P Q R f (x ∷ xs) h k = (f x h.0 k.0, all_with P Q R f xs h.1 k.1)

patterns_of : (P : ℕ → Type 0) (bindings : List Binding) → AllByRecursion P (flat_map (λ b. b.pat ∷ b.right ∷ []) bindings) → AllByRecursion P (map (λ b. b.pat) bindings)
patterns_of P [] h = tt
patterns_of P (b ∷ bindings) h = (h.0, patterns_of P bindings h.1.1)

-- the parts whose names are a node's are parts of it
named_parts : (P : ℕ → Type 0) (n : Node) → AllByRecursion P (node_parts n) → AllByRecursion P (name_parts n)
named_parts P (node.PatApp k q) h = h
named_parts P (node.PatRecord fields) h = h
named_parts P (node.PatTyped q j) h = h
named_parts P (node.PatAs x q) h = h
named_parts P (node.Val us bindings) h = patterns_of P bindings h
named_parts P _ h = tt

-- and none of them stands behind a declaration
near_named : (P : ℕ → Type 0) (n : Node) → AllByRecursion P (near_parts n) → AllByRecursion P (name_parts n)
near_named P (node.Let d e) h = tt
near_named P (node.PatApp k q) h = h
near_named P (node.PatRecord fields) h = h
near_named P (node.PatTyped q j) h = h
near_named P (node.PatAs x q) h = h
near_named P (node.Val us bindings) h = patterns_of P bindings h
near_named P _ h = tt

-- ---- What holds of a node's own names and of those of its parts holds of all its names

module _ (P : ℕ → Type 0) (part : ℕ → List ℕ) where
  abbrev Each : ℕ → Type 0
  Each c = AllByRecursion P (part c)

  of_fields : (fields : List Field) → AllByRecursion Each (map (λ l. l.node) fields) → AllByRecursion P (names_of_fields part fields)
  of_fields [] h = tt
  of_fields (l ∷ fields) h = all_append P (part l.node) (names_of_fields part fields) h.0 (of_fields fields h.1)

  of_bindings : (bindings : List Binding) → AllByRecursion Each (map (λ b. b.pat) bindings) → AllByRecursion P (names_of_bindings part bindings)
  of_bindings [] h = tt
  of_bindings (b ∷ bindings) h = all_append P (part b.pat) (names_of_bindings part bindings) h.0 (of_bindings bindings h.1)

  of_node : (i : ℕ) (n : Node) → AllByRecursion P (own_names n) → AllByRecursion Each (name_parts n) → AllByRecursion P (names_of part i n)
  of_node i (node.PatVar x) own parts = own
  of_node i (node.PatApp k q) own parts = parts.0
  of_node i (node.PatRecord fields) own parts = of_fields fields parts
  of_node i (node.PatTyped q j) own parts = parts.0
  of_node i (node.PatAs x q) own parts = (own.0, parts.0)
  of_node i (node.Val us bindings) own parts = of_bindings bindings parts
  of_node i (node.ValRec us bindings) own parts = own
  of_node i (node.Exception x arg) own parts = own
  of_node i (node.SameException x k) own parts = own
  of_node i _ own parts = tt

-- ---- Nodes below a number

-- what is no node binds no name
none_bound : (nodes : List Node) (k i : ℕ) → slice_get nodes i ≡ None → within [] names_of k nodes i ≡ []
none_bound nodes zero i e = refl
none_bound nodes (suc k) i e = ap (λ o. at_node [] names_of (within [] names_of k nodes) i o) e

module _ (p : Bare) (count : ℕ) (known : ℕ → Option Poly) (numbered : IsNumbered p.nodes) (prefix : IsPrefix p.nodes count) (own : (i : ℕ) → i < count → HaveSchemesAt known (slice_get p.nodes i)) where
  abbrev Known : ℕ → Type 0
  Known x = HasScheme (known x)

  abbrev AreKnown : ℕ → Type 0
  AreKnown i = AllByRecursion Known (names_bound p.nodes i)

  past_known : (i : ℕ) → slice_get p.nodes i ≡ None → AreKnown i
  past_known i e = subst (λ (xs : List ℕ). AllByRecursion Known xs) (sym (none_bound p.nodes (length p.nodes) i e)) tt

  node_known : (i : ℕ) (n : Node) → slice_get p.nodes i ≡ Some n → i < count → ((c : ℕ) → i < c → c < count → AreKnown c) → AreKnown i
  node_known i n e l later =
      let inner = all_with (λ c. (i < c) × (c < length p.nodes)) (λ c. c < count) AreKnown (λ c a b. later c a.0 b) (name_parts n) (named_parts (λ c. (i < c) × (c < length p.nodes)) n (numbered i n e)) (near_named (λ c. c < count) n (prefix.parts i n l e)) in
      let mine : HaveSchemes known n = subst (HaveSchemesAt known) e (own i l) in
      subst (λ (xs : List ℕ). AllByRecursion Known xs) (sym (names_at p.nodes i n numbered e)) (of_node Known (names_bound p.nodes) i n mine inner)

  all_known : (k i : ℕ) → length p.nodes ≤ k + i → i < count → AreKnown i
  all_known zero i far l = past_known i (slice_get_past p.nodes i (omega arith))
  all_known (suc k) i far l = by (slice_get p.nodes i) refl (λ c a b. all_known k c (omega arith) b)
    where
      by : (o : Option Node) → slice_get p.nodes i ≡ o → ((c : ℕ) → i < c → c < count → AreKnown c) → AreKnown i
      by None e later = past_known i e
      by (Some n) e later = node_known i n e l later

  scheme_of : (x : ℕ) (o : Option Poly) → known x ≡ o → HasScheme o → (q : Poly) × (known x ≡ Some q)
  scheme_of x None e h = absurd h
  scheme_of x (Some q) e h = (q, e)

  -- each name that they bind is settled
  pub all_settled : AreSettledBelow p count known
  all_settled x (i, l, e) = scheme_of x (known x) refl (at_in Known (names_bound p.nodes i) x (all_known (length p.nodes) i (omega arith) l) e)
