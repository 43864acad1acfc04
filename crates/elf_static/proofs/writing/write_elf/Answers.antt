use Rattle.elf_static.proofs.Lengths.{laid_out_short}
use Rattle.elf_static.proofs.RoundTrip.{is_read_again}
use Rattle.elf_static.proofs.writing.write_elf.Goals as goal

pub file_of-requires-clause-segments : goal.file_of-requires-clause-segments
file_of-requires-clause-segments c = laid_out_short c.args.image.now c.requires

pub returns-clause-read : goal.returns-clause-read
returns-clause-read c = is_read_again c.args.image.now c.file_of.result c.file_of.ensures.file c.requires c.file_of.ensures.fit
