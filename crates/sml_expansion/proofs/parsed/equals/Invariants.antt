use Rattle.std.proofs.Common.{◌≡◌, ◌+◌, drop}
use Rattle.sml_expansion.specs.Scopes.{equals}
use Rattle.sml_expansion.proofs.parsed.equals.Given as goal

abbrev pub invariant-loop-key : goal.invariant-loop-key
invariant-loop-key l = l.key + equals (drop l.key l.names) ≡ equals l.names
