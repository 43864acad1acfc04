-- The classes of bytes that come in runs.
use Rattle.std.specs.Prelude.{ℕ, Bool}
use Rattle.sml_lexer.specs.declared.bytes.ByteClass.{ByteClass}
use Rattle.sml_lexer.specs.declared.bytes.ByteClass.TheVariants.{Digit, Hexadecimal, Alphanumeric, Sign, Space}
use Rattle.sml_lexer.specs.Bytes.{is_digit, is_hexadecimal, is_alphanumeric, is_sign, is_space}

abbrev pub in_class : ByteClass → ℕ → Bool
in_class Digit = is_digit
in_class Hexadecimal = is_hexadecimal
in_class Alphanumeric = is_alphanumeric
in_class Sign = is_sign
in_class Space = is_space
