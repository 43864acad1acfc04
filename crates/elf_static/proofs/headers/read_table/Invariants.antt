use Rattle.std.proofs.Common.{◌-◌}
use Rattle.elf_static.specs.Numbers.{table}
use Rattle.elf_static.proofs.Tables.{Reads}
use Rattle.elf_static.proofs.headers.read_table.Given as goal

abbrev pub invariant-loop : goal.invariant-loop
invariant-loop g l = Reads g.R.Record.meaning g.R.Record.width (l.count - l.counter) l.rest l.records.items (table g.R.Record.meaning g.R.Record.width l.count l.bytes)
