-- The names that a node binds itself, and the parts whose names it takes over.
use Rattle.std.specs.Prelude.{◌≡◌, ℕ, Some, List, [], ◌∷◌, ◌++◌, map, reverse, slice_get}
use Rattle.sml_tree.specs.declared.bare.Node.{Node}
use Rattle.sml_tree.specs.declared.bare.Node.TheVariants as node
use Rattle.sml_types.specs.Typing.{group_names}

-- the names that stand in the node
abbrev pub own_names : Node → List ℕ
own_names (node.PatVar x) = x.0 ∷ []
own_names (node.PatAs x q) = x.0 ∷ []
own_names (node.ValRec us bindings) = group_names bindings
own_names (node.Exception x arg) = x.0 ∷ []
own_names (node.SameException x k) = x.0 ∷ []
own_names _ = []

-- the parts whose names are names of the node
abbrev pub name_parts : Node → List ℕ
name_parts (node.PatApp k q) = q ∷ []
name_parts (node.PatRecord fields) = map (λ l. l.node) fields
name_parts (node.PatTyped q j) = q ∷ []
name_parts (node.PatAs x q) = q ∷ []
name_parts (node.Val us bindings) = map (λ b. b.pat) bindings
name_parts _ = []

-- a node's own names are found, and its parts wait, the first one last
pub record IsTurn (nodes : List Node) (next : ℕ) (found found' work work' : List ℕ) : Type 0 where
  pub at : Node
  pub here : slice_get nodes next ≡ Some at
  pub names : found' ≡ found ++ own_names at
  pub parts : work' ≡ work ++ reverse (name_parts at)
