use Rattle.infer_tables.proofs.StartFacts.{AreExplicitSoFar}
use Rattle.infer_tables.proofs.starts.add_explicit.Given as goal

abbrev pub invariant-tyvars : goal.invariant-tyvars
invariant-tyvars l = AreExplicitSoFar l.bare l.fn.types l.num l.types l.stands
