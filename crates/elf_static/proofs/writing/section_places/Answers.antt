use Rattle.std.proofs.Common.{arith, ap, length}
use Rattle.elf_static.specs.Writing.{segment_bytes}
use Rattle.elf_static.proofs.Lengths.{length-table_bytes, length-padded}
use Rattle.elf_static.proofs.Padding.{above8}
use Rattle.elf_static.proofs.writing.section_places.Goals as goal

pub overflow_add-plan : goal.overflow_add-plan
overflow_add-plan c =
    let table = length-table_bytes c.args.image.now.entries in
    let same = ap (λ ss. length (segment_bytes ss)) c.items.ensures in
    omega (arith, c.requires.segments, c.requires.rows)

pub overflow_add-names : goal.overflow_add-names
overflow_add-names c =
    let table = length-table_bytes c.args.image.now.entries in
    let same = ap (λ ss. length (segment_bytes ss)) c.items.ensures in
    let plan = length-padded 8 c.items-2.result.now (above8 (length c.items-2.result.now)).0 in
    let near = (above8 (length c.items-2.result.now)).1 in
    omega (arith, c.requires.segments, c.requires.rows)

pub overflow_add-sections : goal.overflow_add-sections
overflow_add-sections c =
    let table = length-table_bytes c.args.image.now.entries in
    let same = ap (λ ss. length (segment_bytes ss)) c.items.ensures in
    let plan = length-padded 8 c.items-2.result.now (above8 (length c.items-2.result.now)).0 in
    let near = (above8 (length c.items-2.result.now)).1 in
    omega (arith, c.requires.segments, c.requires.rows)
