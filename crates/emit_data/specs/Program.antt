-- The whole program of assembler, in which every label is bound.
use Rattle.std.specs.Prelude.{ℕ, ◌+◌, List, [], ◌∷◌, ◌++◌, Some, map, get_or}
use Rattle.rv_asm.specs.Program.{Program}
use Rattle.placed_ir.specs.Program.{Placed}
use Rattle.emit_text.specs.Text.{text, start_place, function_places, routine_places}
use Rattle.emit_text.specs.Bound.{bound_from}
use Rattle.emit_data.specs.declared.places.Places.{Places}
use Rattle.emit_data.specs.Places.{block_places, datum_places}

-- labels from the first on are bound to these places
abbrev pub with_places : Program → ℕ → List ℕ → Program
with_places p first at = record p { places = bound_from first at p.places }

-- what the routines know, from where the memory's parts and the blocks stand
abbrev pub data_from : Places → List ℕ → ℕ → List ℕ
data_from s blocks names =
    s.writable ∷ (s.writable + 1032) ∷ s.arena ∷ s.end
    ∷ get_or blocks (names + 3) 0 ∷ get_or blocks (names + 2) 0 ∷ get_or blocks (names + 4) 0 ∷ get_or blocks (names + 5) 0
    ∷ s.line ∷ (s.line + 8) ∷ []

-- the place of each label
abbrev pub label_places : Placed → ℕ → List ℕ
label_places p arena_words = function_places p ++ start_place p ∷ (block_places p ++ (routine_places p ++ datum_places p arena_words))

abbrev pub program_of : Placed → ℕ → Program
program_of p arena_words = record { items = text p; places = map Some (label_places p arena_words) }
