use Rattle.std.proofs.Common.{◌≤◌, ◌-◌, ℕ, length}
use Rattle.sml_lexer.specs.PlainScan.{long_len}
use Rattle.sml_lexer.proofs.PlainScanLemmas.{Left}
use Rattle.sml_lexer.proofs.plain.long_len.Given as goal

abbrev pub invariant-loop-part : goal.invariant-loop-part
invariant-loop-part l = record { in_range : l.end ≤ length l.bytes; left : (fuel : ℕ) × Left (long_len l.bytes l.first) l.bytes l.end fuel }

abbrev pub decreases-loop-part : goal.decreases-loop-part
decreases-loop-part l = length l.bytes - l.end
