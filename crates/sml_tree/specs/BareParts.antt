-- The parts of a node of the bare tree, and what is defined from the parts up.
use Rattle.std.specs.Prelude.{◌≡◌, ℕ, zero, suc, ◌<◌, List, [], ◌∷◌, Option, Some, None, length, map, slice_get, flat_map}
use Rattle.std.specs.List.{AllByRecursion}
use Rattle.sml_tree.specs.declared.bare.Node.{Node}
use Rattle.sml_tree.specs.declared.bare.Node.TheVariants as node
use Rattle.sml_tree.specs.declared.bare.Rule.{Rule}

abbrev pub rule_parts : Rule → List ℕ
rule_parts r = r.pat ∷ r.body ∷ []

-- the numbers of the nodes that a node is made of, from left to right
abbrev pub node_parts : Node → List ℕ
node_parts (node.Record fields) = map (λ f. f.node) fields
node_parts (node.App f a) = f ∷ a ∷ []
node_parts (node.Case e rules) = e ∷ flat_map rule_parts rules
node_parts (node.Fn rules) = flat_map rule_parts rules
node_parts (node.Raise e) = e ∷ []
node_parts (node.Handle e rules) = e ∷ flat_map rule_parts rules
node_parts (node.Typed e ty) = e ∷ []
node_parts (node.Let d e) = d ∷ e ∷ []
node_parts (node.PatApp c q) = q ∷ []
node_parts (node.PatRecord fields) = map (λ f. f.node) fields
node_parts (node.PatTyped q ty) = q ∷ []
node_parts (node.PatAs x q) = q ∷ []
node_parts (node.PatAsCon x q) = q ∷ []
node_parts (node.Val tyvars bindings) = flat_map (λ b. b.pat ∷ b.right ∷ []) bindings
node_parts (node.ValRec tyvars bindings) = map (λ b. b.right) bindings
node_parts _ = []

-- each part of a node is a node with a greater number
abbrev pub IsNumbered : List Node → Type 0
IsNumbered nodes = (i : ℕ) (n : Node) → slice_get nodes i ≡ Some n → AllByRecursion (λ c. (i < c) × (c < length nodes)) (node_parts n)

module _ {A : Type 0} (none : A) (each : (ℕ → A) → ℕ → Node → A) where
  abbrev pub at_node : (ℕ → A) → ℕ → Option Node → A
  at_node part i None = none
  at_node part i (Some n) = each part i n

  -- what holds of node i, from what holds of its parts, down to k levels
  abbrev pub within : ℕ → List Node → ℕ → A
  within zero nodes i = none
  within (suc k) nodes i = at_node (within k nodes) i (slice_get nodes i)

  -- what holds of node i, from what holds of its parts
  abbrev pub from_parts : List Node → ℕ → A
  from_parts nodes i = within (length nodes) nodes i
