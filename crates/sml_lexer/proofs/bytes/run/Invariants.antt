use Rattle.std.proofs.Common.{◌≡◌, ◌+◌, drop}
use Rattle.std.specs.List.{prefix_len}
use Rattle.sml_lexer.specs.Classes.{in_class}
use Rattle.sml_lexer.proofs.bytes.run.Given as goal

abbrev pub invariant-loop-i : goal.invariant-loop-i
invariant-loop-i l = l.i + prefix_len (in_class l.class) (drop l.i l.bytes) ≡ prefix_len (in_class l.class) l.bytes
