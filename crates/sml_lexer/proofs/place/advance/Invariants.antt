use Rattle.std.proofs.Common.{◌≡◌, ◌+◌, ◌≤◌, take}
use Rattle.std.specs.List.{fold}
use Rattle.sml_lexer.specs.PlaceScan.{next_place}
use Rattle.sml_lexer.proofs.place.advance.Given as goal

abbrev pub invariant-loop-c : goal.invariant-loop-c
invariant-loop-c l = record {
  is : l.place ≡ fold next_place l.initial.place (take l.c-index l.bytes);
  line : l.place.line ≤ l.initial.place.line + l.c-index;
  col : l.place.col ≤ l.initial.place.col + l.c-index + 1;
}
