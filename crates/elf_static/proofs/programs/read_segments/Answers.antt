use Rattle.std.proofs.Common.{◌≡◌, ◌∙◌, length, ap, arith}
use Rattle.elf_static.specs.Headers.{program_header}
use Rattle.elf_static.proofs.Tables.{length-table}
use Rattle.elf_static.proofs.programs.read_segments.Goals as goal

pub segments_from-requires : goal.segments_from-requires
segments_from-requires c =
    let count : length c.deref.result.now ≡ c.args.header.now.programs = ap length (c.deref.ensures.value ∙ c.in_ok-programs.ensures) ∙ length-table program_header 56 c.args.header.now.programs c.split_at.result.1.now in
    omega (arith, c.requires)
