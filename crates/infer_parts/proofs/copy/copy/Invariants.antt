use Rattle.infer_parts.specs.Copies.{AreCopied, AreOldVars}
use Rattle.infer_parts.proofs.copy.copy.Given as goal

abbrev pub invariant-forms : goal.invariant-forms
invariant-forms l = record { copied : AreCopied l.fn.types l.given l.from l.at l.types l.copies.items; vars : AreOldVars l.fn.types l.types }
