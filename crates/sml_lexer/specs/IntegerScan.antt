-- The value of the text of an integer constant.
use Rattle.std.specs.Prelude.{ℕ, ◌&&◌, ◌==◌, ℤ, pos, neg_ℤ, List, length, drop, slice_index, nat_le, if◌then◌else◌}
use Rattle.sml_lexer.specs.Numbers.{number_of}

unfoldable pub magnitude_of : List ℕ → ℕ
magnitude_of s = if nat_le 2 (length s) && slice_index s 0 == 48 && slice_index s 1 == 120 then number_of 16 (drop 2 s) else number_of 10 s

unfoldable pub integer_of : List ℕ → ℤ
integer_of s = if nat_le 1 (length s) && slice_index s 0 == 126 then neg_ℤ (pos (magnitude_of (drop 1 s))) else pos (magnitude_of s)
