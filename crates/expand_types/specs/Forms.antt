-- Nodes by what a walk does at them.
use Rattle.std.specs.Prelude.{Bool, true, false, nat_lt}
use Rattle.sml_tree.specs.Parts.{parts_of}
use Rattle.sml_tree.specs.declared.tree_node.TreeNode.{TreeNode}
use Rattle.sml_tree.specs.declared.tree_node.TreeNode.TheVariants as node
use Rattle.expand_types.specs.declared.labels.RowForm.{RowForm}
use Rattle.expand_types.specs.declared.labels.RowForm.TheVariants.{Rows, FirstOfOne, FirstOfTwo, FirstOfThree, Here}

-- a type of a list and those behind it
abbrev pub is_type_list : TreeNode → Bool
is_type_list node.MoreTyRows = true
is_type_list node.MoreFactors = true
is_type_list node.MoreTys = true
is_type_list _ = false

-- where the labels of a node are
abbrev pub row_form : TreeNode → RowForm
row_form node.MoreRows = Rows
row_form node.MorePatRows = Rows
row_form node.MoreTyRows = Rows
row_form node.PunRow = FirstOfOne
row_form node.Row = FirstOfTwo
row_form node.PatRow = FirstOfTwo
row_form node.TypedPunRow = FirstOfTwo
row_form node.PunRowAs = FirstOfTwo
row_form node.TyRow = FirstOfTwo
row_form node.TypedPunRowAs = FirstOfThree
row_form _ = Here

-- whether a node has parts whose type variables belong to the phrase around it
abbrev pub opens_up : TreeNode → Bool
opens_up node.Val = false
opens_up node.Fun = false
opens_up node.Type = false
opens_up node.Datatype = false
opens_up n = nat_lt 0 (parts_of n)
