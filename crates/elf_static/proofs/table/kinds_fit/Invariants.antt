use Rattle.std.proofs.Common.{◌≡◌, ◌≤◌, ◌-◌, ◌*◌, length}
use Rattle.std.specs.Prelude.{nat_lt}
use Rattle.std.specs.List.{list_all}
use Rattle.elf_static.specs.Numbers.{table}
use Rattle.elf_static.specs.Table.{kind_number}
use Rattle.elf_static.proofs.table.kinds_fit.Given as goal

abbrev pub invariant-loop : goal.invariant-loop
invariant-loop l = record {
  room : 24 * (l.count - l.counter) ≤ length l.rest;
  rest : list_all (λ n. nat_lt n 5) (table kind_number 24 (l.count - l.counter) l.rest) ≡ list_all (λ n. nat_lt n 5) (table kind_number 24 l.count l.rows);
}
