-- How the directives in force are kept.
use Rattle.std.specs.Prelude.{◌≡◌, Option, List, [], ◌∷◌, ◌++◌}
use Rattle.smlc_base.specs.declared.names.Name.{Name}
use Rattle.sml_tree.specs.declared.status.Status.{Status}
use Rattle.sml_syntax.specs.Fixity.{Fix, directive_for}
use Rattle.sml_fixity.specs.Statuses.{status_at}

-- what each of the directives behind f hides
abbrev pub hidden : Fix → Fix → List (Option Status)
hidden f [] = []
hidden f (e ∷ g) = directive_for f e.name ∷ hidden (f ++ e ∷ []) g

-- the table has each identifier's status, and the log what each directive hides
pub record Keeps (f : Fix) (statuses hides : List (Option Status)) : Type 0 where
  pub table : (x : Name) → status_at statuses x.0 ≡ directive_for f x
  pub log : hides ≡ hidden [] f
