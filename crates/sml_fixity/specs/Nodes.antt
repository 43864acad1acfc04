-- The nodes that a parse makes, and where they begin.
use Rattle.std.specs.Prelude.{◌-◌, ◌++◌, drop, get_or, length, map, List, [], ◌∷◌}
use Rattle.smlc_base.specs.declared.place.Place.{Place}
use Rattle.sml_lexer.specs.declared.token.Token.{Token}
use Rattle.sml_tree.specs.declared.tree_node.TreeNode.{TreeNode}
use Rattle.sml_tree.specs.Parts.{parts_of}
use Rattle.sml_syntax.specs.declared.forms.Made.{Made}
use Rattle.sml_syntax.specs.declared.forms.Made.TheVariants as made

abbrev pub node_of : Made → TreeNode
node_of (made.Inner m) = m
node_of (made.Lead m n) = m

abbrev pub bare : List Made → List TreeNode
bare o = map node_of o

-- the places of the tokens, and of the end behind them
abbrev pub places : List Token → Place → List Place
places tokens end = map (λ t. t.place) tokens ++ end ∷ []

-- Where a node begins, where s has the places of the finished phrases before it, the last first: at its own token, the
-- last but so many, or at its first part.
abbrev pub start_of : List Place → Place → List Place → Made → Place
start_of at end s (made.Lead m n) = get_or at (length at - n) end
start_of at end s (made.Inner m) = get_or s (parts_of m - 1) end

abbrev pub starts_of : List Place → Place → List Place → List Made → List Place
starts_of at end s [] = []
starts_of at end s (m ∷ o) = start_of at end s m ∷ starts_of at end (start_of at end s m ∷ drop (parts_of (node_of m)) s) o
