-- Functions with the words of their spill records, and the greatest record.
use Rattle.std.specs.Prelude.{ℕ, List, [], ◌∷◌}
use Rattle.closure_ir.specs.declared.body.Function.{Function}
use Rattle.placed_ir.specs.declared.body.Function.{Function as FunctionThere}
use Rattle.place_laws.specs.Place.{greater, frame_size}

-- the body of this function, where each body has so many words
abbrev pub with_frame : (ℕ → ℕ) → Function → FunctionThere
with_frame frames f = record { body = f.body; frame = frames f.body }

-- what the records of functions take at most, with their headers
abbrev pub most_words : List FunctionThere → ℕ
most_words [] = 0
most_words (f ∷ functions) = greater (frame_size f.frame) (most_words functions)
