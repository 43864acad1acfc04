-- What nodes are as patterns.
use Rattle.sml_tree.specs.declared.tree_node.TreeNode.{TreeNode}
use Rattle.sml_tree.specs.declared.tree_node.TreeNode.TheVariants as node
use Rattle.expand_patterns.specs.declared.forms.Form.{Form}
use Rattle.expand_patterns.specs.declared.forms.Form.TheVariants as form

abbrev pub form_of : TreeNode → Form
form_of node.MorePats = form.More
form_of node.MoreAtpats = form.More
form_of node.MorePatRows = form.More
form_of (node.Vid x) = form.Name
form_of node.VidEquals = form.Name
form_of (node.LongVid x) = form.Name
form_of node.Op = form.NamePart
form_of node.PunRow = form.NamePart
form_of (node.Int z) = form.Int z
form_of (node.Char c) = form.Char c
form_of (node.Text t) = form.Text t
form_of node.PatUnit = form.Empty
form_of node.PatEmptyRecord = form.Empty
form_of node.PatEmptyList = form.EmptyList
form_of node.PatParen = form.Inside
form_of node.PatRow = form.Row
form_of node.PatList = form.Items
form_of node.PatRecord = form.Rows
form_of node.PatTuple = form.Tuple
form_of node.ConPat = form.Applied
form_of node.InfixPat = form.Infix
form_of node.TypedPat = form.Typed
form_of node.TypedPunRow = form.TypedRow
form_of node.Layered = form.Layered
form_of node.PunRowAs = form.Layered
form_of node.TypedLayered = form.TypedLayered
form_of node.TypedPunRowAs = form.TypedLayered
form_of _ = form.Wild
