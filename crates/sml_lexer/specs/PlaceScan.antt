-- The place behind one more byte.
use Rattle.std.specs.Prelude.{ℕ, ◌+◌, ◌==◌, if◌then◌else◌}
use Rattle.smlc_base.specs.declared.place.Place.{Place}

abbrev pub next_place : Place → ℕ → Place
next_place place c = if c == 10 then record { file = place.file; line = place.line + 1; col = 1 } else record { file = place.file; line = place.line; col = place.col + 1 }
