use Rattle.std.proofs.Common.{◌≡◌, ◌++◌, length, drop}
use Rattle.place_bodies.specs.Steps.{name_steps, group_table}
use Rattle.reg_spill.proofs.binds.name_all.Given as goal

abbrev pub invariant-loop-maker : goal.invariant-loop-maker
invariant-loop-maker l = record {
  steps : l.steps.items ++ name_steps l.alive (drop l.maker-index l.makers) l.offset l.taken.keys ≡ l.fn.steps.items ++ name_steps l.alive l.makers 0 l.fn.taken.keys;
  table : group_table l.alive (drop l.maker-index l.makers) l.taken.keys l.table.items ≡ group_table l.alive l.makers l.fn.taken.keys l.fn.table.items;
  fits : length l.table.items ≡ length l.fn.table.items;
}
