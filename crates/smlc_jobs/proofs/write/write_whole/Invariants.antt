use Rattle.std.proofs.Common.{◌≡◌, ℕ, List, ◌++◌, length}
use Rattle.smlc_edge.specs.Edge.{Gains}
use Rattle.smlc_jobs.proofs.write.write_whole.Given as goal

abbrev pub invariant-loop-rest : goal.invariant-loop-rest
invariant-loop-rest g l = record {
  so_far : (wrote : List ℕ) × (wrote ++ l.rest ≡ l.bytes) × Gains (g.S.Sink.taken l.fn.sink) (g.S.Sink.taken l.sink) wrote;
  same : g.S.Sink.faults l.sink ≡ g.S.Sink.faults l.fn.sink;
  sure : g.S.Sink.sure l.fn.sink → g.S.Sink.sure l.sink;
}

abbrev pub decreases-loop-rest : goal.decreases-loop-rest
decreases-loop-rest g l = length l.rest
