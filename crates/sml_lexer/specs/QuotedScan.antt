-- What the scanner finds in a constant in quotes.
use Rattle.std.specs.Prelude.{ℕ, ◌+◌, ◌-◌, min, ◌&&◌, ◌==◌, nat_le, List, length, take, drop, slice_index, Option, Some, None, if◌then◌else◌}
use Rattle.std.specs.List.{prefix_len}
use Rattle.sml_lexer.specs.declared.quoted.Item.{Item}
use Rattle.sml_lexer.specs.declared.quoted.Item.TheVariants.{Char, Gap, Control, Close, Open, Unknown}
use Rattle.sml_lexer.specs.declared.bytes.ByteClass.{ByteClass}
use Rattle.sml_lexer.specs.declared.bytes.ByteClass.TheVariants.{Digit, Hexadecimal}
use Rattle.sml_lexer.specs.Bytes.{is_digit, is_space, is_control}
use Rattle.sml_lexer.specs.Classes.{in_class}
use Rattle.sml_lexer.specs.Numbers.{number_of}
use Rattle.sml_lexer.specs.Quoted.{letter_escape}

unfoldable pub caret_at : List ℕ → Item
caret_at s =
    if length s == 0 then Open
    else (if nat_le 64 (slice_index s 0) && nat_le (slice_index s 0) 95 then Char (slice_index s 0 - 64) 3 else Unknown)

-- so many digits of a class, behind `before` bytes of an escape
unfoldable pub digits_at : ByteClass → ℕ → ℕ → ℕ → List ℕ → Item
digits_at class base count before s =
    if nat_le count (prefix_len (in_class class) s) then Char (min 0x4000_0000_0000_0001 (number_of base (take count s))) (before + count)
    else (if prefix_len (in_class class) s == length s then Open else Unknown)

unfoldable pub gap_at : List ℕ → Item
gap_at s =
    if prefix_len is_space s == length s then Open
    else (if slice_index s (prefix_len is_space s) == 92 then Gap (prefix_len is_space s + 2) else Unknown)

abbrev pub letter_or : Option ℕ → Item → Item
letter_or (Some code) other = Char code 2
letter_or None other = other

-- behind a backslash
unfoldable pub escape_at : List ℕ → Item
escape_at s =
    if length s == 0 then Open
    else letter_or (letter_escape (slice_index s 0))
    (if slice_index s 0 == 94 then caret_at (drop 1 s)
    else (if is_digit (slice_index s 0) then digits_at Digit 10 3 1 s
    else (if slice_index s 0 == 117 then digits_at Hexadecimal 16 4 2 (drop 1 s)
    else (if is_space (slice_index s 0) then gap_at s else Unknown))))

-- what stands at the front of bytes behind the opening quote
unfoldable pub item_at : List ℕ → Item
item_at s =
    if length s == 0 then Open
    else (if slice_index s 0 == 34 then Close
    else (if slice_index s 0 == 10 then Open
    else (if is_control (slice_index s 0) then Control
    else (if slice_index s 0 == 92 then escape_at (drop 1 s)
    else Char (slice_index s 0) 1))))
