use Rattle.std.proofs.Common.{◌≡◌, false, drop}
use Rattle.std.specs.List.{list_any}
use Rattle.elf_static.specs.Checks.{first_failed}
use Rattle.elf_static.specs.Sections.{passes_end, right_checks}
use Rattle.elf_static.proofs.sections.check_tables.Given as goal

abbrev pub invariant-loop-s : goal.invariant-loop-s
invariant-loop-s l = record {
  in_file : list_any (passes_end l.bytes) (drop l.s-index l.tables) ≡ false;
  first : first_failed (right_checks l.bytes l.segments (drop l.s-index l.tables)) ≡ first_failed (right_checks l.bytes l.segments l.tables);
}
