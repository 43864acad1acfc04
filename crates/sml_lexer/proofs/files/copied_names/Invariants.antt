use Rattle.std.proofs.Common.{◌≡◌, take}
use Rattle.sml_lexer.proofs.files.copied_names.Given as goal

abbrev pub invariant-loop-i : goal.invariant-loop-i
invariant-loop-i l = l.copy ≡ take l.i l.names
