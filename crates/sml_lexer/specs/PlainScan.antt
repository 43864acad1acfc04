-- What the scanner finds at the front of some bytes, for every token but the constants in quotes.
use Rattle.std.specs.Prelude.{ℕ, zero, suc, ◌+◌, Bool, true, false, not, ◌&&◌, ◌||◌, ◌==◌, nat_lt, nat_le, List, length, take, drop, slice_index, Option, Some, None, is_some, if◌then◌else◌}
use Rattle.std.specs.List.{prefix_len}
use Rattle.sml_lexer.specs.declared.plain.Found.{Found}
use Rattle.sml_lexer.specs.declared.plain.AfterDot.{AfterDot}
use Rattle.sml_lexer.specs.declared.plain.Class.TheVariants.{Word, Id, Symbol, Long, TyVar, Int, WordLit, Real}
use Rattle.sml_lexer.specs.declared.bytes.ByteClass.{ByteClass}
use Rattle.sml_lexer.specs.declared.bytes.ByteClass.TheVariants.{Digit, Hexadecimal}
use Rattle.sml_lexer.specs.declared.reserved.Reserved.TheVariants.{KwDots}
use Rattle.sml_lexer.specs.Bytes.{is_letter, is_digit, is_hexadecimal, is_alphanumeric, is_sign}
use Rattle.sml_lexer.specs.Classes.{in_class}
use Rattle.sml_lexer.specs.declared.reserved.Reserved.{Reserved}
use Rattle.sml_lexer.specs.Reserved.{reserved_of}

-- the length of the longest front of at most n bytes that is no reserved word
abbrev pub kept : List ℕ → ℕ → ℕ
kept s zero = zero
kept s (suc n) = if is_some (reserved_of (take (suc n) s)) then kept s n else suc n

-- what may follow a dot
unfoldable pub part_at : List ℕ → AfterDot
part_at s =
    if is_letter (slice_index s 0)
    then (if is_some (reserved_of (take (prefix_len is_alphanumeric s) s))
    then record { len = kept s (prefix_len is_alphanumeric s); goes_on = false }
    else record { len = prefix_len is_alphanumeric s; goes_on = true })
    else record { len = kept s (prefix_len is_sign s); goes_on = false }

-- a dot, a part after it, and what follows that
abbrev pub joined : AfterDot → ℕ → ℕ
joined part more = if part.len == 0 then 0 else (if part.goes_on then 1 + part.len + more else 1 + part.len)

-- the length of the longest row of dots, each with what follows it; fuel is at least the number of bytes
abbrev pub dots : ℕ → List ℕ → ℕ
dots zero s = 0
dots (suc fuel) s = if slice_index s 0 == 46 then joined (part_at (drop 1 s)) (dots fuel (drop (1 + (part_at (drop 1 s)).len) s)) else 0

abbrev pub long_len : List ℕ → ℕ → ℕ
long_len s first = first + dots (length s) (drop first s)

-- a reserved word, an identifier or a long identifier
abbrev pub word_found : Option Reserved → ℕ → ℕ → Found
word_found (Some w) first len = record { len = first; class = Word w }
word_found None first len = record { len = len; class = (if len == first then Id else Long) }

unfoldable pub word_at : List ℕ → Found
word_at s = word_found (reserved_of (take (prefix_len is_alphanumeric s) s)) (prefix_len is_alphanumeric s) (long_len s (prefix_len is_alphanumeric s))

abbrev pub sign_found : Option Reserved → ℕ → Found
sign_found (Some w) len = record { len = len; class = Word w }
sign_found None len = record { len = len; class = Symbol }

unfoldable pub sign_at : List ℕ → Found
sign_at s = sign_found (reserved_of (take (prefix_len is_sign s) s)) (prefix_len is_sign s)

-- behind `0` and the letter, the length of the run of the class
unfoldable pub prefixed_len : ℕ → ByteClass → List ℕ → ℕ
prefixed_len letter class s = if nat_le 2 (length s) && slice_index s 0 == 48 && slice_index s 1 == letter then prefix_len (in_class class) (drop 2 s) else 0

unfoldable pub hexadecimal_word_len : List ℕ → ℕ
hexadecimal_word_len s = if nat_le 3 (length s) && slice_index s 0 == 48 && slice_index s 1 == 119 && slice_index s 2 == 120 then prefix_len is_hexadecimal (drop 3 s) else 0

-- one more, where there is something
abbrev pub behind_one : ℕ → ℕ
behind_one n = if nat_lt 0 n then n + 1 else 0

unfoldable pub fraction_len : List ℕ → ℕ
fraction_len s = if nat_le 1 (length s) && slice_index s 0 == 46 then behind_one (prefix_len is_digit (drop 1 s)) else 0

unfoldable pub decimal_len : List ℕ → ℕ
decimal_len s = if nat_le 1 (length s) && slice_index s 0 == 126 then behind_one (prefix_len is_digit (drop 1 s)) else prefix_len is_digit s

unfoldable pub exponent_len : List ℕ → ℕ
exponent_len s = if nat_le 1 (length s) && (slice_index s 0 == 101 || slice_index s 0 == 69) then behind_one (decimal_len (drop 1 s)) else 0

unfoldable pub real_len : List ℕ → ℕ
real_len s = fraction_len s + exponent_len (drop (fraction_len s) s)

-- digits, and what makes them a real constant
abbrev pub digits_found : ℕ → ℕ → Found
digits_found digits real = if nat_lt 0 real then record { len = digits + real; class = Real } else record { len = digits; class = Int }

-- a constant of these lengths behind `0x`, `0wx` and `0w`, or digits with these behind them
abbrev pub number_found : Bool → ℕ → ℕ → ℕ → ℕ → ℕ → Found
number_found negative hexadecimal hexadecimal_word word digits real =
    if nat_lt 0 hexadecimal then record { len = 2 + hexadecimal; class = Int }
    else (if not negative && nat_lt 0 hexadecimal_word then record { len = 3 + hexadecimal_word; class = WordLit }
    else (if not negative && nat_lt 0 word then record { len = 2 + word; class = WordLit } else digits_found digits real))

unfoldable pub unsigned_at : Bool → List ℕ → Found
unsigned_at negative s =
    number_found negative (prefixed_len 120 Hexadecimal s) (hexadecimal_word_len s) (prefixed_len 119 Digit s) (prefix_len is_digit s) (real_len (drop (prefix_len is_digit s) s))

unfoldable pub negative_at : List ℕ → Found
negative_at s = record { len = 1 + (unsigned_at true (drop 1 s)).len; class = (unsigned_at true (drop 1 s)).class }

abbrev pub word_of : Option Reserved → Option Found
word_of (Some w) = Some (record { len = 1; class = Word w })
word_of None = None

unfoldable pub point_at : List ℕ → Option Found
point_at s =
    if nat_le 3 (length s) && slice_index s 0 == 46 && slice_index s 1 == 46 && slice_index s 2 == 46 then Some (record { len = 3; class = Word KwDots })
    else word_of (reserved_of (take 1 s))

-- the longest spelling at the front of some bytes
unfoldable pub plain_at : List ℕ → Option Found
plain_at s =
    if is_letter (slice_index s 0) then Some (word_at s)
    else (if is_digit (slice_index s 0) then Some (unsigned_at false s)
    else (if slice_index s 0 == 39 then Some (record { len = prefix_len is_alphanumeric s; class = TyVar })
    else (if slice_index s 0 == 126 && is_digit (slice_index s 1) then Some (negative_at s)
    else (if is_sign (slice_index s 0) then Some (sign_at s) else point_at s))))
