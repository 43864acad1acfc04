use Rattle.std.proofs.Common.{◌≡◌, ◌≤◌, drop, length}
use Rattle.heap_probes.specs.Rules.{greatest}
use Rattle.heap_probes.proofs.labels.greatest.Given as goal

abbrev pub invariant-loop-at : goal.invariant-loop-at
invariant-loop-at l = record {
  most : l.most ≡ greatest (drop l.at l.counts);
  within : l.at ≤ length l.counts;
}

abbrev pub decreases-loop-at : goal.decreases-loop-at
decreases-loop-at l = l.at
