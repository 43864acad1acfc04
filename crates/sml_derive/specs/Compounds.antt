-- Which nodes of expressions have expressions as parts.
use Rattle.std.specs.Prelude.{Bool, true, false}
use Rattle.sml_tree.specs.declared.tree_node.TreeNode.{TreeNode}
use Rattle.sml_tree.specs.declared.tree_node.TreeNode.TheVariants as node

abbrev pub is_compound : TreeNode → Bool
is_compound node.Paren = true
is_compound node.Apply = true
is_compound node.InfixExp = true
is_compound node.Tuple = true
is_compound node.MoreItems = true
is_compound node.Record = true
is_compound node.Row = true
is_compound node.MoreRows = true
is_compound node.List = true
is_compound node.Sequence = true
is_compound node.MoreSeq = true
is_compound node.Typed = true
is_compound node.Andalso = true
is_compound node.Orelse = true
is_compound node.If = true
is_compound node.While = true
is_compound node.Raise = true
is_compound node.Handle = true
is_compound node.Case = true
is_compound node.Fn = true
is_compound node.Let = true
is_compound _ = false
