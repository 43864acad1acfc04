-- When the nodes below a number can be gone through by themselves.
use Rattle.std.specs.Prelude.{◌≡◌, ℕ, ◌<◌, Bool, true, false, Option, Some, None, List, [], ◌∷◌, length, map, slice_get}
use Rattle.std.specs.List.{AllByRecursion}
use Rattle.sml_tree.specs.declared.bare.Node.{Node}
use Rattle.sml_tree.specs.declared.bare.Node.TheVariants as node
use Rattle.sml_tree.specs.BareParts.{node_parts}

-- the parts of a node, but for what stands behind a declaration
abbrev pub near_parts : Node → List ℕ
near_parts (node.Let d e) = d ∷ []
near_parts n = node_parts n

-- the parts of a node whose names it asks for
abbrev pub binding_parts : Node → List ℕ
binding_parts (node.Case e rules) = map (λ r. r.pat) rules
binding_parts (node.Fn rules) = map (λ r. r.pat) rules
binding_parts (node.Handle e rules) = map (λ r. r.pat) rules
binding_parts (node.Let d e) = d ∷ []
binding_parts (node.PatApp k q) = q ∷ []
binding_parts (node.PatRecord fields) = map (λ l. l.node) fields
binding_parts (node.PatTyped q j) = q ∷ []
binding_parts (node.PatAs x q) = q ∷ []
binding_parts (node.Val us bindings) = map (λ b. b.pat) bindings
binding_parts _ = []

-- a pattern or a declaration
abbrev pub is_binder : Node → Bool
is_binder node.Wild = true
is_binder (node.PatInt n) = true
is_binder (node.PatChar n) = true
is_binder (node.PatText n) = true
is_binder (node.PatVar x) = true
is_binder (node.PatCon k) = true
is_binder (node.PatApp k q) = true
is_binder (node.PatRecord fields) = true
is_binder (node.PatTyped q j) = true
is_binder (node.PatAs x q) = true
is_binder (node.PatAsCon x q) = true
is_binder (node.Val us bindings) = true
is_binder (node.ValRec us bindings) = true
is_binder (node.Type bindings) = true
is_binder (node.Datatype bindings) = true
is_binder (node.Exception x arg) = true
is_binder (node.SameException x k) = true
is_binder (node.NoException x) = true
is_binder _ = false

abbrev pub is_binder_at : Option Node → Bool
is_binder_at (Some n) = is_binder n
is_binder_at None = false

-- the parts of the nodes below a number are below it too, but for what stands behind declarations; and where names are asked for stand patterns and declarations
pub record IsPrefix (nodes : List Node) (count : ℕ) : Type 0 where
  pub parts : (i : ℕ) (n : Node) → i < count → slice_get nodes i ≡ Some n → AllByRecursion (λ c. c < count) (near_parts n)
  pub binders : (i : ℕ) (n : Node) → i < count → slice_get nodes i ≡ Some n → AllByRecursion (λ c. is_binder_at (slice_get nodes c) ≡ true) (binding_parts n)

-- what a prefix asks of one node
pub record IsGoodAt (nodes : List Node) (count i : ℕ) : Type 0 where
  pub numbered : (n : Node) → slice_get nodes i ≡ Some n → AllByRecursion (λ c. (i < c) × (c < length nodes)) (node_parts n)
  pub parts : (n : Node) → i < count → slice_get nodes i ≡ Some n → AllByRecursion (λ c. c < count) (near_parts n)
  pub binders : (n : Node) → i < count → slice_get nodes i ≡ Some n → AllByRecursion (λ c. is_binder_at (slice_get nodes c) ≡ true) (binding_parts n)
