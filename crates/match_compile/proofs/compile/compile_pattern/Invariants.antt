use Rattle.std.proofs.Common.{◌≡◌, ◌++◌, reverse, []}
use Rattle.std.specs.Prelude.{flat_map}
use Rattle.match_laws.specs.Compile.{tests, names}
use Rattle.match_compile.specs.Walk.{total, turns}
use Rattle.match_compile.proofs.compile.compile_pattern.Given as goal

abbrev pub invariant-loop-task : goal.invariant-loop-task
invariant-loop-task l = record {
  tested : l.found.items ++ flat_map (λ q. tests l.tables.names l.nodes q.node q.path) (reverse l.work.items) ≡ tests l.tables.names l.nodes l.pat [];
  bound : l.bound.items ++ flat_map (λ q. names l.nodes q.node q.path) (reverse l.work.items) ≡ names l.nodes l.pat [];
}

abbrev pub decreases-loop-task : goal.decreases-loop-task
decreases-loop-task l = total (turns l.nodes) (reverse l.work.items)
