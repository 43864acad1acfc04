use Rattle.sml_fixity.specs.Terminals.{terminals}
use Rattle.sml_fixity.proofs.ReadLemmas.{Far}
use Rattle.sml_fixity.proofs.read.read.Given as goal

abbrev pub invariant-loop-i : goal.invariant-loop-i
invariant-loop-i l = Far l.fn.scope (terminals l.names l.tokens) l.i l.machine
