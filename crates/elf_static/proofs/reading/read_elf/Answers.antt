use Rattle.std.proofs.Common.{arith}
use Rattle.elf_static.specs.Headers.{file_header}
use Rattle.elf_static.proofs.Answered.{IsBytes, answered_loads, answered_table}
use Rattle.elf_static.proofs.reading.read_elf.Goals as goal

pub returns-clause-loadable : goal.returns-clause-loadable
returns-clause-loadable c = answered_loads c.args.bytes.now (file_header c.args.bytes.now) c.read_image.result c.read_image.ensures.passes c.read_image.ensures.image

pub returns-clause-table : goal.returns-clause-table
returns-clause-table c =
    let fits : IsBytes c.args.bytes.now = record { below = λ i. omega (arith, c.type_inv.bytes i) } in
    answered_table c.args.bytes.now (file_header c.args.bytes.now) c.read_image.result fits c.read_image.ensures.passes c.read_image.ensures.image
