use Rattle.std.proofs.Common.{◌≤◌, List, length, drop}
use Rattle.lambda_ir.specs.declared.term.Term.{Term}
use Rattle.convert_laws.specs.Decide.{decide_all}
use Rattle.convert_decide.specs.Table.{AreFacts}
use Rattle.convert_decide.specs.Decide.{AreTaken, AreRets, nothing_decided, IsDecided}
use Rattle.convert_decide.proofs.decide.decide_all.Given as goal

abbrev pub invariant-loop-at : goal.invariant-loop-at
invariant-loop-at l = record {
  within : l.at ≤ length l.sites;
  done :
      (terms : List Term) → AreFacts terms l.facts → AreTaken terms 0 l.taken → AreRets l.sites l.rets → IsDecided terms nothing_decided l.fn.own l.fn.pending → IsDecided terms (decide_all terms l.sites (drop l.at l.sites)) l.own l.pending;
}

abbrev pub decreases-loop-at : goal.decreases-loop-at
decreases-loop-at l = l.at
