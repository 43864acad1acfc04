-- What tokens cite.
use Rattle.std.specs.Prelude.{ℕ, ◌&&◌, Bool, true, List, nat_lt, pos, neg_ℤ, ◌^◌, ◌-◌, int_le}
use Rattle.std.specs.List.{list_all}
use Rattle.sml_lexer.specs.declared.token.Token.{Token}
use Rattle.sml_lexer.specs.declared.token.TokenKind.{TokenKind}
use Rattle.sml_lexer.specs.declared.token.TokenKind.TheVariants.{Word, Id, Symbol, Long, TyVar, Int, WordLit, Real, Char, Text}

-- the name or text that a kind cites is one of so many, and an integer constant lies in its range
abbrev pub is_cited : ℕ → ℕ → TokenKind → Bool
is_cited names texts (Word w) = true
is_cited names texts (Id n) = nat_lt n.0 names
is_cited names texts (Symbol n) = nat_lt n.0 names
is_cited names texts (Long n) = nat_lt n.0 names
is_cited names texts (TyVar n) = nat_lt n.0 names
is_cited names texts (Int z) = int_le (neg_ℤ (pos (2 ^ 62))) z && int_le z (pos (2 ^ 62 - 1))
is_cited names texts (WordLit v) = true
is_cited names texts Real = true
is_cited names texts (Char n) = true
is_cited names texts (Text i) = nat_lt i texts

abbrev pub all_cited : ℕ → ℕ → List Token → Bool
all_cited names texts ts = list_all (λ t. is_cited names texts t.kind) ts
