use Rattle.std.proofs.Common.{◌≡◌, ◌++◌, drop, take}
use Rattle.std.specs.Prelude.{All}
use Rattle.std.specs.List.{flat_map}
use Rattle.elf_static.specs.Writing.{row_bytes, RowFits}
use Rattle.elf_static.proofs.writing.put_rows.Given as goal

abbrev pub invariant-loop-row : goal.invariant-loop-row
invariant-loop-row l = record {
  bytes : l.out.items ++ flat_map row_bytes (drop l.row-index l.rows) ≡ l.fn.out.items ++ flat_map row_bytes l.rows;
  fit : All RowFits (take l.row-index l.rows);
}
