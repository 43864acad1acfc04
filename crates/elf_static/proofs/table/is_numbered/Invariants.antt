use Rattle.std.proofs.Common.{◌≡◌, drop}
use Rattle.elf_static.specs.Table.{are_numbered}
use Rattle.elf_static.proofs.table.is_numbered.Given as goal

abbrev pub invariant-loop-i : goal.invariant-loop-i
invariant-loop-i l = are_numbered l.i (drop l.i l.rows) ≡ are_numbered 0 l.rows
