use Rattle.std.proofs.Common.{◌≡◌, ◌+◌, ◌≤◌, length}
use Rattle.convert_scopes.specs.Scopes.{Chain}
use Rattle.convert_scopes.proofs.scopes.Scopes.rise.Given as goal

abbrev pub invariant-loop-self : goal.invariant-loop-self
invariant-loop-self l = record {
  bounds : l.self.bounds ≡ l.fn.self.bounds;
  stands : l.to ≤ length l.self.bounds;
  chain : Chain l.self.bounds l.scope l.entered.items l.to;
}

abbrev pub decreases-loop-self : goal.decreases-loop-self
decreases-loop-self l = l.to + l.self.present
