-- The word that is printed for the kind of a failed check.
use Rattle.std.specs.Prelude.{ℕ, List, codes}
use Rattle.elf_static.specs.declared.error.ElfKind.{ElfKind}
use Rattle.elf_static.specs.declared.error.ElfKind.TheVariants as kinds

abbrev pub word_of : ElfKind → List ℕ
word_of kinds.Short = codes "Short"
word_of kinds.Ident = codes "Ident"
word_of kinds.FileType = codes "Type"
word_of kinds.Machine = codes "Machine"
word_of kinds.Version = codes "Version"
word_of kinds.Sizes = codes "Sizes"
word_of kinds.Programs = codes "Programs"
word_of kinds.Dynamic = codes "Dynamic"
word_of kinds.Segment = codes "Segment"
word_of kinds.Overlap = codes "Overlap"
word_of kinds.TooLarge = codes "TooLarge"
word_of kinds.Entry = codes "Entry"
word_of kinds.Section = codes "Section"
word_of kinds.Table = codes "Table"
