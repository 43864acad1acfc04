-- What terminals cite.
use Rattle.std.specs.Prelude.{ℕ, pos, neg_ℤ, int_le, nat_lt, ◌^◌, ◌-◌, ◌&&◌, Bool, true, List}
use Rattle.std.specs.List.{list_all}
use Rattle.sml_syntax.specs.declared.forms.Terminal.{Terminal}
use Rattle.sml_syntax.specs.declared.forms.Terminal.TheVariants as tok

-- the name or text that a terminal cites is one of so many, and an integer constant lies in its range
abbrev pub cites : ℕ → ℕ → Terminal → Bool
cites names texts (tok.Id x s) = nat_lt x.0 names
cites names texts (tok.Long x y) = nat_lt x.0 names
cites names texts (tok.TyVar x) = nat_lt x.0 names
cites names texts (tok.Int z h) = int_le (neg_ℤ (pos (2 ^ 62))) z && int_le z (pos (2 ^ 62 - 1))
cites names texts (tok.Text i) = nat_lt i texts
cites names texts _ = true

abbrev pub all_cite : ℕ → ℕ → List Terminal → Bool
all_cite names texts a = list_all (cites names texts) a
