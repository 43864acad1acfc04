use Rattle.std.proofs.Common.{arith}
use Rattle.elf_static.proofs.Lengths.{length-table_bytes}
use Rattle.elf_static.proofs.writing.table_len.Goals as goal

pub returns : goal.returns
returns c = omega (arith, c.len.ensures, length-table_bytes c.args.e.now)
