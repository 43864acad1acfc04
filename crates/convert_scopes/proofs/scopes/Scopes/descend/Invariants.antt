use Rattle.std.proofs.Common.{◌≡◌, length}
use Rattle.convert_scopes.specs.Scopes.{Chain}
use Rattle.convert_scopes.proofs.scopes.Scopes.descend.Given as goal

abbrev pub invariant-loop-next : goal.invariant-loop-next
invariant-loop-next l = record {
  bounds : l.self.bounds ≡ l.fn.self.bounds;
  chain : Chain l.self.bounds l.scope l.entered.items l.self.present;
}

abbrev pub decreases-loop-next : goal.decreases-loop-next
decreases-loop-next l = length l.entered.items
