-- Which classes a byte is in.
use Rattle.std.proofs.Common.{◌≡◌, ◌≢◌, ℕ, ◌≤◌, true, false, None, arith}
use Rattle.std.proofs.lemmas.Bool.Decides.{nat_tests}
use Rattle.sml_lexer.specs.Bytes.{is_letter, is_digit, is_hexadecimal, is_alphanumeric, is_sign, is_space}
use Rattle.sml_lexer.specs.Quoted.{letter_escape}

-- what a byte of a class is
pub digit_range : (c : ℕ) → is_digit c ≡ true → (48 ≤ c) × (c ≤ 57)
unfolding is_digit
digit_range c h = grind (arith, nat_tests)

pub letter_range : (c : ℕ) → is_letter c ≡ true → (65 ≤ c) × (c ≤ 122)
unfolding is_letter
letter_range c h = grind (arith, nat_tests)

pub hexadecimal_range : (c : ℕ) → is_hexadecimal c ≡ true → (48 ≤ c) × (c ≤ 102)
unfolding is_hexadecimal
hexadecimal_range c h = grind (arith, nat_tests)

pub alphanumeric_range : (c : ℕ) → is_alphanumeric c ≡ true → (39 ≤ c) × (c ≤ 122) × (c ≢ 46)
unfolding is_alphanumeric
alphanumeric_range c h = grind (arith, nat_tests)

pub space_range : (c : ℕ) → is_space c ≡ true → (c ≤ 32)
unfolding is_space
space_range c h = grind (arith, nat_tests)

-- a class that a byte is not in
pub digit_not_letter : (c : ℕ) → is_digit c ≡ true → is_letter c ≡ false
unfolding is_digit is_letter
digit_not_letter c h = grind (arith, nat_tests)

pub letter_alphanumeric : (c : ℕ) → is_letter c ≡ true → is_alphanumeric c ≡ true
unfolding is_alphanumeric is_letter
letter_alphanumeric c h = grind (arith, nat_tests)

pub sign_not_letter : (c : ℕ) → is_sign c ≡ true → is_letter c ≡ false
unfolding is_sign is_letter
sign_not_letter c h = grind (arith, nat_tests)

pub sign_not_digit : (c : ℕ) → is_sign c ≡ true → is_digit c ≡ false
unfolding is_sign is_digit
sign_not_digit c h = grind (arith, nat_tests)

pub digit_not_escape : (c : ℕ) → is_digit c ≡ true → letter_escape c ≡ None
unfolding is_digit letter_escape
digit_not_escape c h = grind (arith, nat_tests)

pub space_not_escape : (c : ℕ) → is_space c ≡ true → letter_escape c ≡ None
unfolding is_space letter_escape
space_not_escape c h = grind (arith, nat_tests)

pub space_not_digit : (c : ℕ) → is_space c ≡ true → is_digit c ≡ false
unfolding is_space is_digit
space_not_digit c h = grind (arith, nat_tests)
