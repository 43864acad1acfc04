use Rattle.std.proofs.Common.{◌≡◌, ◌≤◌, take, map}
use Rattle.sml_lexer.specs.Files.{total, limit}
use Rattle.sml_lexer.proofs.files.too_long.Given as goal

abbrev pub invariant-loop-i : goal.invariant-loop-i
invariant-loop-i l = (l.total ≡ total (map (λ f. f.items) (take l.i l.files))) × (l.total ≤ limit)
