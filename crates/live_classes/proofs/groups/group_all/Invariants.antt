use Rattle.std.proofs.Common.{◌≡◌, ℕ, take}
use Rattle.std.specs.Global.{Vec}
use Rattle.live_classes.specs.Keys.{grouped, key_at, with_key}
use Rattle.live_classes.proofs.groups.group_all.Given as goal

abbrev pub invariant-loop-x : goal.invariant-loop-x
invariant-loop-x l = (q : Vec ℕ) → grouped l.groups q ≡ with_key (key_at l.homes l.users) (take l.x-index l.variables) q.items
