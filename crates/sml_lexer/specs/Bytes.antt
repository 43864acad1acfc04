-- Classes of bytes.
use Rattle.std.specs.Prelude.{ℕ, Bool, ◌||◌, ◌&&◌, ◌==◌, nat_eq, nat_le, nat_lt, codes}
use Rattle.std.specs.List.{list_any}

unfoldable pub is_letter : ℕ → Bool
is_letter c = (nat_le 65 c && nat_le c 90) || (nat_le 97 c && nat_le c 122)

unfoldable pub is_digit : ℕ → Bool
is_digit c = nat_le 48 c && nat_le c 57

unfoldable pub is_hexadecimal : ℕ → Bool
is_hexadecimal c = (nat_le 48 c && nat_le c 57) || (nat_le 65 c && nat_le c 70) || (nat_le 97 c && nat_le c 102)

-- what goes on an alphanumeric identifier: letters, digits, primes and underscores
unfoldable pub is_alphanumeric : ℕ → Bool
is_alphanumeric c = (nat_le 65 c && nat_le c 90) || (nat_le 97 c && nat_le c 122) || (nat_le 48 c && nat_le c 57) || c == 39 || c == 95

-- what symbolic identifiers are made of
unfoldable pub is_sign : ℕ → Bool
is_sign c = list_any (nat_eq c) (codes "!%&$#+-/:<=>?@\\~`^|*")

-- space, tab, newline, form feed and carriage return
unfoldable pub is_space : ℕ → Bool
is_space c = c == 32 || c == 9 || c == 10 || c == 12 || c == 13

unfoldable pub is_control : ℕ → Bool
is_control c = nat_lt c 32 || c == 127
