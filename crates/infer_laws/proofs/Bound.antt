-- The names that a node binds are those of its parts.
use Rattle.std.proofs.Common.{◌≡◌, ℕ, List, [], ◌∷◌, ◌++◌, Some, refl, ap, ◌∙◌}
use Rattle.std.specs.Prelude.{slice_get, map, flat_map}
use Rattle.std.specs.List.{AllByRecursion}
use Rattle.sml_tree.specs.declared.bare.Field.{Field}
use Rattle.sml_tree.specs.declared.bare.Binding.{Binding}
use Rattle.sml_tree.specs.declared.bare.Node.{Node}
use Rattle.sml_tree.specs.declared.bare.Node.TheVariants as node
use Rattle.sml_tree.specs.BareParts.{node_parts, IsNumbered, at_node}
use Rattle.sml_tree.proofs.Unfold.{by_parts}
use Rattle.infer_state.specs.Names.{names_of, names_of_fields, names_of_bindings, names_bound}

module _ (f g : ℕ → List ℕ) where
  abbrev Same : ℕ → Type 0
  Same c = f c ≡ g c

  fields_by_parts : (fields : List Field) → AllByRecursion Same (map (λ l. l.node) fields) → names_of_fields f fields ≡ names_of_fields g fields
  fields_by_parts [] h = refl
  fields_by_parts (l ∷ fields) h =
      ap (λ xs. xs ++ names_of_fields f fields) h.0 ∙ ap (λ ys. g l.node ++ ys) (fields_by_parts fields h.1)

  bindings_by_parts : (bindings : List Binding) → AllByRecursion Same (flat_map (λ b. b.pat ∷ b.right ∷ []) bindings) → names_of_bindings f bindings ≡ names_of_bindings g bindings
  bindings_by_parts [] h = refl
  bindings_by_parts (b ∷ bindings) h =
      ap (λ xs. xs ++ names_of_bindings f bindings) h.0 ∙ ap (λ ys. g b.pat ++ ys) (bindings_by_parts bindings h.1.1)

  names_by_parts : (i : ℕ) (n : Node) → AllByRecursion Same (node_parts n) → names_of f i n ≡ names_of g i n
  names_by_parts i (node.PatApp k q) h = h.0
  names_by_parts i (node.PatRecord fields) h = fields_by_parts fields h
  names_by_parts i (node.PatTyped q j) h = h.0
  names_by_parts i (node.PatAs x q) h = ap (λ xs. x.0 ∷ xs) h.0
  names_by_parts i (node.Val us bindings) h = bindings_by_parts bindings h
  names_by_parts i _ h = refl

pub bound_of : (nodes : List Node) (i : ℕ) (n : Node) → IsNumbered nodes → slice_get nodes i ≡ Some n → names_bound nodes i ≡ names_of (names_bound nodes) i n
bound_of nodes i n numbered e =
    by_parts [] names_of (λ (xs ys : List ℕ). xs ≡ ys) refl (λ f g j m h. names_by_parts f g j m h) nodes numbered i
    ∙ ap (at_node [] names_of (names_bound nodes) i) e
