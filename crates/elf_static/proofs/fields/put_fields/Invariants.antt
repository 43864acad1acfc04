use Rattle.std.proofs.Common.{◌≡◌, ◌++◌, drop}
use Rattle.elf_static.specs.Writing.{fields, FieldsFit}
use Rattle.elf_static.proofs.fields.put_fields.Given as goal

abbrev pub invariant-loop-field : goal.invariant-loop-field
invariant-loop-field l = record {
  bytes : l.out.items ++ fields (drop l.field-index l.all) ≡ l.fn.out.items ++ fields l.all;
  fit : FieldsFit (drop l.field-index l.all) → FieldsFit l.all;
}
