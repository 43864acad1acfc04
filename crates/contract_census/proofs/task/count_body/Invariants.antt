use Rattle.std.specs.Prelude.{◌≡◌, ◌++◌, flat_map, take, drop}
use Rattle.contract_census.specs.Counting.{count_binds}
use Rattle.contract_census.specs.Tasks.{bind_tasks}
use Rattle.contract_census.proofs.task.count_body.Given as goal

abbrev pub invariant-loop-bind : goal.invariant-loop-bind
invariant-loop-bind l = record {
  counts : count_binds l.within (drop l.bind-index l.binds) l.counts.items ≡ count_binds l.within l.binds l.fn.counts.items;
  work : l.work.items ≡ l.fn.work.items ++ flat_map bind_tasks (take l.bind-index l.binds);
}
