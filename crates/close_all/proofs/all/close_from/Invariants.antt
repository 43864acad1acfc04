use Rattle.std.proofs.Common.{◌≡◌, ◌++◌, drop}
use Rattle.close_seen.specs.Seen.{closed_from}
use Rattle.close_all.specs.Begins.{AllStand, all_visible}
use Rattle.close_all.proofs.all.close_from.Given as goal

abbrev pub invariant-loop-i : goal.invariant-loop-i
invariant-loop-i l = record {
  stand : AllStand l.scopes l.begins.items;
  closed : l.closed ++ closed_from l.decisions (all_visible l.scopes l.begins.items) l.i (drop l.i l.bodies) ≡ closed_from l.decisions (all_visible l.fn.scopes l.fn.begins.items) 0 l.bodies;
}
