use Rattle.std.proofs.Common.{take}
use Rattle.sml_unify.specs.Solved.{AreEqual}
use Rattle.infer_state.specs.Steps.{Reaches}
use Rattle.infer_nodes.proofs.equal.equal_all.Given as goal

abbrev pub invariant-pairs : goal.invariant-pairs
invariant-pairs l =
    Reaches l.tables.names (λ f. AreEqual l.fn.unknowns.types f (take l.pair-index l.pairs)) (λ f. AreEqual l.fn.unknowns.types f (take l.pair-index l.pairs)) l.fn.unknowns l.unknowns
