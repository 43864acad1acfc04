use Rattle.std.proofs.Common.{◌≡◌, ℕ, ◌<◌, List, [], ◌∷◌, length, get_or, true, sym, ap, ◌∙◌, arith}
use Rattle.sml_lexer.specs.Bytes.{is_space}
use Rattle.sml_lexer.specs.Steps.{IsGapAt}
use Rattle.sml_lexer.proofs.PlaceSteps.{space_step}
use Rattle.sml_lexer.proofs.step.step_at.Goals as goal

space : (bytes : List ℕ) → 0 < length bytes → is_space (get_or bytes 0 0) ≡ true → IsGapAt bytes 1
space [] h e = absurd (omega arith)
space (c ∷ bytes) h e = space_step c bytes e

pub returns-then-is_space : goal.returns-then-is_space
returns-then-is_space c = space c.args.bytes.now c.requires (ap is_space (sym c.byte_at-first.ensures) ∙ sym c.if-is_space.ensures)
