use Rattle.std.proofs.Common.{◌≡◌, drop}
use Rattle.sml_lexer.specs.Reserved.{first_spelled}
use Rattle.sml_lexer.proofs.reserved.first_spelled.Given as goal

abbrev pub invariant-loop-word : goal.invariant-loop-word
invariant-loop-word l = first_spelled (drop l.word-index l.words) l.text ≡ first_spelled l.words l.text
