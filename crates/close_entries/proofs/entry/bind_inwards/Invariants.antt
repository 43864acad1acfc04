use Rattle.std.proofs.Common.{◌≡◌, ◌≤◌, length, drop}
use Rattle.close_scopes.specs.Scopes.{Grows, bounds}
use Rattle.close_entries.proofs.entry.bind_inwards.Given as goal

abbrev pub invariant-loop-i : goal.invariant-loop-i
invariant-loop-i l = record {
  grown : Grows l.fn.scopes l.scopes;
  stands : l.scope.innermost ≤ length l.scopes;
  below : l.i ≤ length l.all;
  made : bounds l.scopes l.scope.innermost ≡ drop l.i l.all;
}

abbrev pub decreases-loop-i : goal.decreases-loop-i
decreases-loop-i l = l.i
