-- The depth of the phrases of a program.
use Rattle.std.specs.Prelude.{ℕ, ◌+◌, max, take, drop, reverse, List, [], ◌∷◌}
use Rattle.sml_tree.specs.declared.tree_node.TreeNode.{TreeNode}
use Rattle.sml_tree.specs.declared.tree_node.TreeNode.TheVariants as node
use Rattle.sml_tree.specs.Parts.{parts_of}

-- how many phrases a form adds above its parts: what only lists phrases, as rows or a match, adds none, nor does the
-- head of a clause before its arguments; an infix head in parentheses adds two
abbrev pub adds : TreeNode → ℕ
adds node.NoDecs = 0
adds node.MoreDecs = 0
adds node.MoreVids = 0
adds node.NoTyVars = 0
adds node.TyVarSeq = 0
adds node.MoreTyVars = 0
adds node.ValBind = 0
adds node.MoreValBinds = 0
adds node.Rec = 0
adds node.MoreFunBinds = 0
adds node.MoreClauses = 0
adds node.Clause = 0
adds node.TypedClause = 0
adds node.Head = 0
adds node.ParenHead = 2
adds node.MoreAtpats = 0
adds node.TypBind = 0
adds node.MoreTypBinds = 0
adds node.DatBind = 0
adds node.MoreDatBinds = 0
adds node.ConBind = 0
adds node.ConBindOf = 0
adds node.MoreConBinds = 0
adds node.ExBind = 0
adds node.ExBindOf = 0
adds node.ExBindIs = 0
adds node.MoreExBinds = 0
adds node.Op = 0
adds node.Row = 0
adds node.MoreRows = 0
adds node.MoreItems = 0
adds node.MoreSeq = 0
adds node.Rule = 0
adds node.MoreRules = 0
adds node.MorePats = 0
adds node.PatRow = 0
adds node.PunRow = 0
adds node.TypedPunRow = 0
adds node.PunRowAs = 0
adds node.TypedPunRowAs = 0
adds node.MorePatRows = 0
adds node.MoreFactors = 0
adds node.TyRow = 0
adds node.MoreTyRows = 0
adds node.MoreTys = 0
adds _ = 1

abbrev pub greatest : List ℕ → ℕ
greatest [] = 0
greatest (d ∷ ds) = max d (greatest ds)

-- The depth of a phrase by those of its parts, the last first. The arguments behind an infix head in parentheses are no
-- part of it.
abbrev pub depth_of : TreeNode → List ℕ → ℕ
depth_of node.ParenHeadArgs (args ∷ ds) = max args (2 + greatest ds)
depth_of m ds = adds m + greatest ds

-- The depths of the declarations of a program in order, read from left to right: s has those of the finished phrases,
-- the last first.
abbrev pub depths : List ℕ → List TreeNode → List ℕ
depths s [] = reverse s
depths s (m ∷ o) = depths (depth_of m (take (parts_of m) s) ∷ drop (parts_of m) s) o
