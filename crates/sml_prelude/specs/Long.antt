-- Long identifiers that stand for short ones.
use Rattle.std.specs.Prelude.{ℕ, List, [], ◌∷◌, Option, codes}
use Rattle.std.specs.Borrow.{Bor}
use Rattle.sml_prelude.specs.declared.entry.Entry.{Entry}
use Rattle.sml_prelude.specs.Entries.{first_of}

-- an entry of the table as a pair of texts
abbrev pub long_row : Entry (Bor (List ℕ)) → List ℕ × List ℕ
long_row e = (e.text.now, e.meaning.now)

unfoldable pub long_identifiers : List (List ℕ × List ℕ)
long_identifiers =
    (codes "List.null", codes "null") ∷
    (codes "List.hd", codes "hd") ∷
    (codes "List.tl", codes "tl") ∷
    (codes "List.rev", codes "rev") ∷
    (codes "List.length", codes "length") ∷
    (codes "List.map", codes "map") ∷
    (codes "List.app", codes "app") ∷
    (codes "List.foldl", codes "foldl") ∷
    (codes "List.foldr", codes "foldr") ∷
    (codes "List.@", codes "@") ∷
    (codes "Option.isSome", codes "isSome") ∷
    (codes "Option.valOf", codes "valOf") ∷
    (codes "Option.getOpt", codes "getOpt") ∷
    (codes "String.size", codes "size") ∷
    (codes "String.str", codes "str") ∷
    (codes "String.concat", codes "concat") ∷
    (codes "String.implode", codes "implode") ∷
    (codes "String.explode", codes "explode") ∷
    (codes "String.substring", codes "substring") ∷
    (codes "String.^", codes "^") ∷
    (codes "Char.ord", codes "ord") ∷
    (codes "Char.chr", codes "chr") ∷
    (codes "Int.abs", codes "abs") ∷
    (codes "TextIO.print", codes "print") ∷
    []

unfoldable pub short_of : List ℕ → Option (List ℕ)
short_of text = first_of long_identifiers text
