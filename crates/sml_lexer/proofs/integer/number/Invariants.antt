use Rattle.std.proofs.Common.{◌≡◌, min, take}
use Rattle.sml_lexer.specs.Numbers.{number_of}
use Rattle.sml_lexer.proofs.integer.number.Given as goal

abbrev pub invariant-loop-c : goal.invariant-loop-c
invariant-loop-c l = l.value ≡ min 0x4000_0000_0000_0001 (number_of l.base (take l.c-index l.digits))
