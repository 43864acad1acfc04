-- Places, by counting lines and columns.
use Rattle.std.specs.Prelude.{ℕ, ◌+◌, Bool, not, List, ◌==◌, count_by}
use Rattle.std.specs.List.{suffix_len}
use Rattle.smlc_base.specs.declared.place.Place.{Place}

abbrev pub is_newline : ℕ → Bool
is_newline c = c == 10

-- The place behind these bytes of a file: the line is one more than their newlines, the column one more than the bytes behind the last newline.
abbrev pub place_behind : ℕ → List ℕ → Place
place_behind file before = record { file = file; line = count_by is_newline before + 1; col = suffix_len (λ c. not (is_newline c)) before + 1 }
