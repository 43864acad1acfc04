use Rattle.std.specs.Prelude.{◌≡◌, ◌+◌, drop}
use Rattle.cps_contract.specs.Own.{binds_own}
use Rattle.cps_contract.proofs.nodes.binds_own.Given as goal

abbrev pub invariant-loop-bind : goal.invariant-loop-bind
invariant-loop-bind l = l.count + binds_own (drop l.bind-index l.binds) ≡ binds_own l.binds
