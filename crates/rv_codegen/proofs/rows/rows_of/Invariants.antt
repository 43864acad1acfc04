use Rattle.std.proofs.Common.{◌≡◌, ◌≤◌, ◌-◌, ◌++◌, drop, get_or}
use Rattle.rv_codegen.specs.Image.{rows_from}
use Rattle.rv_codegen.proofs.rows.rows_of.Given as goal

abbrev pub invariant-loop-label : goal.invariant-loop-label
invariant-loop-label l = record {
  low : l.label ≤ l.count;
  whole : l.rows ++ rows_from l.placed (λ k. get_or l.at k 0) l.label (drop l.label l.placed.points) ≡ rows_from l.placed (λ k. get_or l.at k 0) 0 l.placed.points;
}

abbrev pub decreases-loop-label : goal.decreases-loop-label
decreases-loop-label l = l.count - l.label
