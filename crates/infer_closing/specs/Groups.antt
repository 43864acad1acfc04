-- The names of a declaration that are generalised together.
use Rattle.std.specs.Prelude.{ℕ, Option, Some, None, List, [], ◌∷◌}
use Rattle.sml_tree.specs.declared.bare.Binding.{Binding}
use Rattle.sml_tree.specs.declared.bare.RecBinding.{RecBinding}
use Rattle.sml_tree.specs.declared.bare.Node.{Node}
use Rattle.sml_tree.specs.declared.bare.Node.TheVariants as node
use Rattle.infer_state.specs.Names.{names_bound}
use Rattle.infer_closing.specs.declared.group.Together.{Together}

abbrev pub together : Option ℕ → List ℕ → Together
together right names = record { right = right; names = names }

abbrev pub of_bindings : List Node → List Binding → List Together
of_bindings nodes [] = []
of_bindings nodes (b ∷ bindings) = together (Some b.right) (names_bound nodes b.pat) ∷ of_bindings nodes bindings

abbrev pub of_group : List RecBinding → List Together
of_group [] = []
of_group (b ∷ bindings) = together (Some b.right) (b.name.0 ∷ []) ∷ of_group bindings

-- the names of each binding of a declaration, with its right side
abbrev pub of_declaration : List Node → Node → List Together
of_declaration nodes (node.Val us bindings) = of_bindings nodes bindings
of_declaration nodes (node.ValRec us bindings) = of_group bindings
of_declaration nodes (node.Exception x arg) = together None (x.0 ∷ []) ∷ []
of_declaration nodes (node.SameException x k) = together None (x.0 ∷ []) ∷ []
of_declaration nodes _ = []
