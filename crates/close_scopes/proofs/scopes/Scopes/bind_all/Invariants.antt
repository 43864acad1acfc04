use Rattle.std.proofs.Common.{◌≡◌, ◌≤◌, length, drop}
use Rattle.close_scopes.specs.Scopes.{bounds, over, Grows}
use Rattle.close_scopes.proofs.scopes.Scopes.bind_all.Given as goal

abbrev pub invariant-loop-bound : goal.invariant-loop-bound
invariant-loop-bound l = record {
  grown : Grows l.fn.self l.self;
  stands : l.scope.innermost ≤ length l.self;
  made : over (drop l.bound-index l.more) (bounds l.self l.scope.innermost) ≡ over l.more (bounds l.fn.self l.fn.outer.innermost);
}
