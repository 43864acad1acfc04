-- Digits and what they stand for.
use Rattle.std.specs.Prelude.{◌≡◌, ℕ, ◌+◌, ◌*◌, ◌-◌, Bool, true, false, List, [], ◌∷◌, if◌then◌else◌, nat_le, ◌==◌, ◌&&◌, not, length, slice_index}
use Rattle.std.specs.List.{list_all, fold, prefix_len}
use Rattle.sml_lexer.specs.Bytes.{is_digit}

-- one or more bytes of a class
abbrev pub AreSome : (ℕ → Bool) → List ℕ → Type 0
AreSome p [] = ⊥
AreSome p (c ∷ s) = list_all p (c ∷ s) ≡ true

-- what a digit stands for, a hexadecimal one too
unfoldable pub digit_value : ℕ → ℕ
digit_value c = if nat_le c 57 then c - 48 else (if nat_le c 70 then c - 55 else c - 87)

-- the number that digits in a base stand for
abbrev pub number_of : ℕ → List ℕ → ℕ
number_of base digits = fold (λ n c. n * base + digit_value c) 0 digits

-- decimal digits alone, the first of them not 0
unfoldable pub is_numeral : List ℕ → Bool
is_numeral s = if nat_le 1 (length s) && not (slice_index s 0 == 48) then prefix_len is_digit s == length s else false
