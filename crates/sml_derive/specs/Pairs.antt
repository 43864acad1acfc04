-- Expressions with two parts: what is made, and what is written between and behind the parts.
use Rattle.std.specs.Prelude.{Bool, true, false, List, [], ◌∷◌, ◌++◌}
use Rattle.smlc_base.specs.declared.place.Place.{Place}
use Rattle.sml_tree.specs.declared.tree_node.TreeNode.{TreeNode}
use Rattle.sml_tree.specs.declared.tree_node.TreeNode.TheVariants as node
use Rattle.sml_tree.specs.declared.bare.Node.TheVariants as bare
use Rattle.sml_expansion.specs.declared.mark.Mark.{Mark}
use Rattle.sml_expansion.specs.declared.mark.Mark.TheVariants.{Close}
use Rattle.sml_expansion.specs.Terms.{Term, two}
use Rattle.sml_expansion.specs.Forests.{Forest, none, grown, ◌&◌}
use Rattle.sml_expansion.specs.Marks.{marks}
use Rattle.sml_expansion.specs.Makings.{Makes, gives, ◌>>=◌}
use Rattle.sml_expansion.specs.Scopes.{Scope}
use Rattle.sml_expansion.specs.Bare.{con_true, con_false, con_pattern, con_node, apply_node, case_node, if_node}
use Rattle.sml_expansion.specs.Expressions.{expressions, rules, elsewhere}
use Rattle.sml_derive.specs.declared.identifiers.Stands.{Stands}
use Rattle.sml_derive.specs.declared.identifiers.Stands.TheVariants.{Applied, Elsewhere}
use Rattle.sml_derive.specs.declared.pairs.Pair.{Pair}
use Rattle.sml_derive.specs.declared.pairs.Pair.TheVariants as pair
use Rattle.sml_derive.specs.declared.pairs.Matched.{Matched}
use Rattle.sml_derive.specs.declared.pairs.Matched.TheVariants as matched
use Rattle.sml_derive.specs.Steps.{position}

abbrev pub first_of : Pair → Stands
first_of pair.Apply = Applied
first_of pair.Andalso = Elsewhere
first_of pair.Orelse = Elsewhere

abbrev pub pair_node : Pair → Place → Forest → Forest → Forest
pair_node pair.Apply p x y = apply_node p x y
pair_node pair.Andalso p x y = if_node p x y (con_node p con_false)
pair_node pair.Orelse p x y = if_node p x (con_node p con_true) y

abbrev pub between : Pair → Place → List Mark
between pair.Apply p = []
between pair.Andalso p = marks (con_pattern p con_true)
between pair.Orelse p = marks (con_pattern p con_true) ++ (marks (con_node p con_true) ++ marks (con_pattern p con_false))

abbrev pub behind_pair : Pair → Place → List Mark
behind_pair pair.Apply p = Close (bare.App 0 0) p ∷ []
behind_pair pair.Andalso p = marks (con_pattern p con_false) ++ (marks (con_node p con_false) ++ (Close (bare.Case 0 []) p ∷ []))
behind_pair pair.Orelse p = Close (bare.Case 0 []) p ∷ []

abbrev pub pair_of : Pair → Scope → Term → Makes Forest
pair_of f s (two n p a b) = do
  x ← expressions (position (first_of f)) s a
  y ← expressions elsewhere s b
  gives (pair_node f p x y)
pair_of f s t = gives none

abbrev pub match_node : Matched → Place → Forest → Forest → Forest
match_node matched.Case p x y = case_node p x y
match_node matched.Handle p x y = grown (bare.Handle 0 []) p (x & y)

abbrev pub behind_match : Matched → Place → List Mark
behind_match matched.Case p = Close (bare.Case 0 []) p ∷ []
behind_match matched.Handle p = Close (bare.Handle 0 []) p ∷ []

abbrev pub match_of : Matched → Scope → Term → Makes Forest
match_of f s (two n p a m) = do
  x ← expressions elsewhere s a
  y ← rules s m
  gives (match_node f p x y)
match_of f s t = gives none

-- an expression and those behind it
abbrev pub is_list : TreeNode → Bool
is_list node.MoreItems = true
is_list node.MoreRows = true
is_list node.MoreSeq = true
is_list _ = false
