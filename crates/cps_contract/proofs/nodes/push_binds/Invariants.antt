use Rattle.std.specs.Prelude.{◌≡◌, ◌++◌, flat_map, take}
use Rattle.cps_ir.specs.Kept.{bind_parts}
use Rattle.cps_contract.proofs.nodes.push_binds.Given as goal

abbrev pub invariant-loop-bind : goal.invariant-loop-bind
invariant-loop-bind l = l.work.items ≡ l.fn.work.items ++ flat_map bind_parts (take l.bind-index l.binds)
