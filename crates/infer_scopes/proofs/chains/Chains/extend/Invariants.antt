use Rattle.std.proofs.Common.{◌≡◌, ◌≤◌, ◌++◌, length, drop}
use Rattle.infer_scopes.specs.Chains.{chain, IsBelow, IsMore}
use Rattle.infer_scopes.proofs.chains.Chains.extend.Given as goal

abbrev pub invariant-items : goal.invariant-items
invariant-items l = record {
  within : l.i ≤ length l.items;
  more : IsMore l.fn.self l.self;
  below : IsBelow (length l.self) l.head;
  is : chain l.self l.head ≡ drop l.i l.items ++ chain l.fn.self l.fn.next;
}

abbrev pub decreases-items : goal.decreases-items
decreases-items l = l.i
