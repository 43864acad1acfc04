-- The list of marks that spells trees of bare nodes.
use Rattle.std.specs.Prelude.{List, [], ◌∷◌, ◌++◌}
use Rattle.sml_expansion.specs.declared.mark.Mark.{Mark}
use Rattle.sml_expansion.specs.declared.mark.Mark.TheVariants.{Open, Close}
use Rattle.sml_expansion.specs.Forests.{Forest, none, tree}

-- each node stands behind its parts, and a mark before them says where they begin
abbrev pub marks : Forest → List Mark
marks none = []
marks (tree n p parts rest) = Open ∷ (marks parts ++ Close n p ∷ marks rest)
