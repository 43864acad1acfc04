use Rattle.std.proofs.Common.{◌-◌, length}
use Rattle.sml_lexer.specs.QuotedRead.{IsRead}
use Rattle.sml_lexer.proofs.quoted.read_quoted.Given as goal

abbrev pub invariant-parts : goal.invariant-parts
invariant-parts l = IsRead l.bytes l.at l.value.items l.wide l.stray

abbrev pub decreases-parts : goal.decreases-parts
decreases-parts l = length l.bytes - l.at
