-- Names that are bound by themselves.
use Rattle.std.specs.Prelude.{ℕ, Bool, true, false, if◌then◌else◌, List, [], ◌∷◌}
use Rattle.smlc_base.specs.declared.refusal.Refusal.TheVariants as refusal
use Rattle.sml_tree.specs.declared.tree_node.TreeNode.{TreeNode}
use Rattle.sml_tree.specs.declared.tree_node.TreeNode.TheVariants as node
use Rattle.sml_expansion.specs.declared.scope.Bound.{Bound}
use Rattle.sml_expansion.specs.declared.scope.Ident.{Ident}
use Rattle.sml_expansion.specs.Makings.{Makes, gives, breaks, ◌>>=◌, ◌>>◌}
use Rattle.sml_expansion.specs.Patterns.{binds, patterns}
use Rattle.sml_expansion.specs.Scopes.{Scope}
use Rattle.sml_expansion.specs.Terms.{Term, place_at}

-- the binding of an identifier that isn't long
abbrev pub binds_short : List (List ℕ) → Ident → Makes (List Bound)
binds_short names i =
    if i.long then gives [] else (do
      v ← binds names i
      gives (v ∷ []))

-- what a pattern binds that a recursive binding can't have
abbrev pub refused_vars : Scope → Term → Makes (List Bound)
refused_vars s w = do
  breaks (refusal.BadBinding (place_at w) ∷ [])
  x ← patterns s w
  gives x.vars

-- an identifier without `op`
abbrev pub is_vid : TreeNode → Bool
is_vid (node.Vid x) = true
is_vid node.VidEquals = true
is_vid (node.LongVid x) = true
is_vid _ = false
