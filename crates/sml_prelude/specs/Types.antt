-- The types.
use Rattle.std.specs.Prelude.{ℕ, List, [], ◌∷◌, Option, codes}
use Rattle.sml_prelude.specs.declared.types.BaseType.{BaseType}
use Rattle.sml_prelude.specs.declared.types.BaseType.TheVariants.{Named, Unit as Empty}
use Rattle.sml_prelude.specs.Entries.{first_of}

abbrev pub types : List (List ℕ × BaseType)
types =
    (codes "int", Named 0) ∷
    (codes "char", Named 1) ∷
    (codes "string", Named 2) ∷
    (codes "exn", Named 3) ∷
    (codes "bool", Named 4) ∷
    (codes "list", Named 5) ∷
    (codes "option", Named 6) ∷
    (codes "order", Named 7) ∷
    (codes "ref", Named 8) ∷
    (codes "TextIO.instream", Named 9) ∷
    (codes "unit", Empty) ∷
    []

unfoldable pub type_of : List ℕ → Option BaseType
type_of text = first_of types text
