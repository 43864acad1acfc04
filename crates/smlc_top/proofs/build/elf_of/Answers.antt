use Rattle.std.proofs.Common.{ap}
use Rattle.elf_static.specs.declared.image.Image.{Image}
use Rattle.print_code.proofs.Bounds.{written-short}
use Rattle.smlc_top.proofs.build.elf_of.Goals as goal

pub returns-in-Ok-write_elf : goal.returns-in-Ok-write_elf
returns-in-Ok-write_elf c = record {
  image = c.in-Ok.image;
  read = c.in-Ok-write_elf.ensures.read;
  compiles = record {
    prints = c.in-Ok.ensures.prints;
    entries = ap (λ (i : Image). i.entries) c.in-Ok.ensures.image;
    plan = ap (λ (i : Image). i.plan) c.in-Ok.ensures.image;
  };
  bounded = rw (c.in-Ok-write_elf.ensures.written, c.in-Ok.ensures.image) (written-short c.args.printed.lengths.items c.args.printed.text.items c.requires);
}
