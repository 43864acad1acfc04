-- What stands behind a phrase.
use Rattle.std.specs.Prelude.{◌≡◌, Bool, true, false, List, [], ◌∷◌}
use Rattle.sml_syntax.specs.declared.forms.Terminal.{Terminal}
use Rattle.sml_syntax.specs.declared.forms.Terminal.TheVariants as tok
use Rattle.sml_syntax.specs.declared.forms.Look.{Look}
use Rattle.sml_syntax.specs.declared.forms.Look.TheVariants as look
use Rattle.sml_syntax.specs.Fixity.{Fix, looks}

-- what stands next passes a test
abbrev pub Next : (Look → Bool) → Fix → List Terminal → Type 0
Next q f [] = ⊥
Next q f (t ∷ a) = q (looks f t) ≡ true

-- what ends a type
abbrev pub ends_ty : Look → Bool
ends_ty (look.Plain x s) = false
ends_ty (look.Operator x s l r) = false
ends_ty (look.Other (tok.Long x y)) = false
ends_ty (look.Other tok.To) = false
ends_ty _ = true

-- what ends a pattern
abbrev pub ends_pat : Look → Bool
ends_pat (look.Other tok.Equals) = true
ends_pat (look.Other tok.Arrow) = true
ends_pat (look.Other tok.Comma) = true
ends_pat (look.Other tok.Close) = true
ends_pat (look.Other tok.CloseBracket) = true
ends_pat (look.Other tok.CloseBrace) = true
ends_pat _ = false
