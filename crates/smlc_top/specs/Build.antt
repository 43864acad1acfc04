-- What becomes of files.
use Rattle.std.specs.Prelude.{ℕ, ◌≡◌, ◌≤◌, List, length, Ok}
use Rattle.smlc_base.specs.declared.refusal.Refusal.{Refusal}
use Rattle.elf_static.specs.declared.image.Image.{Image}
use Rattle.elf_static.specs.Reading.{meaning_of}
use Rattle.sml_types.specs.declared.typed.Typed.{Typed}
use Rattle.sml_pipeline.specs.Passes.{IsImageOf}
use Rattle.smlc_top.specs.declared.build.Built.{Built}
use Rattle.smlc_top.specs.declared.build.Built.TheVariants.{Elf, Refused, NoMemory}
use Rattle.smlc_top.specs.Front.{IsUntyped}
use Rattle.smlc_top.specs.Clause.{Means, Becomes, Compiles}
use Rattle.smlc_jobs.specs.Texts.{refused_line}

-- the bytes of an ELF file whose image prints the text
pub record IsElfOf (text bytes : List ℕ) : Type 0 where
  pub image : Image
  pub read : meaning_of bytes ≡ Ok image
  pub compiles : Compiles text image
  pub bounded : length bytes ≤ 8589934592

-- the bytes of an ELF file, one that prints the files' text, or one whose image is what all passes make of the files
pub data IsElf (files : List (List ℕ)) (arena : ℕ) (bytes : List ℕ) : Type 0 where
  of_prints : (text : List ℕ) → Means files text → IsElfOf text bytes → IsElf files arena bytes
  of_passes : (image : Image) → Becomes files arena image → meaning_of bytes ≡ Ok image → length bytes ≤ 8589934592 → IsElf files arena bytes

-- an ELF file of the files, the line of their refusal, or want of memory
abbrev pub IsBuilt : List (List ℕ) → List (List ℕ) → ℕ → Built → Type 0
IsBuilt names files arena (Elf bytes) = IsElf files arena bytes.items
IsBuilt names files arena (Refused line) = (refusal : Refusal) × IsUntyped files refusal × (line.items ≡ refused_line names refusal)
IsBuilt names files arena NoMemory = Unit {0}

-- an ELF file that prints the text, or want of memory
abbrev pub IsMade : List ℕ → Built → Type 0
IsMade text (Elf bytes) = IsElfOf text bytes.items
IsMade text (Refused line) = ⊥
IsMade text NoMemory = Unit {0}

-- an ELF file whose image is what all passes make of a typed tree, or want of memory
abbrev pub IsPassed : Typed → ℕ → Built → Type 0
IsPassed typed arena (Elf bytes) = (image : Image) × IsImageOf typed.tables.names typed.bare arena image × (meaning_of bytes.items ≡ Ok image) × (length bytes.items ≤ 8589934592)
IsPassed typed arena (Refused line) = ⊥
IsPassed typed arena NoMemory = Unit {0}

-- the ELF file of an image, or want of memory
abbrev pub IsFileOf : Image → Built → Type 0
IsFileOf image (Elf bytes) = (meaning_of bytes.items ≡ Ok image) × (length bytes.items ≤ 8589934592)
IsFileOf image (Refused line) = ⊥
IsFileOf image NoMemory = Unit {0}

-- a refusal with its line, or want of memory
abbrev pub IsRefusal : List (List ℕ) → Refusal → Built → Type 0
IsRefusal names refusal (Refused line) = line.items ≡ refused_line names refusal
IsRefusal names refusal NoMemory = Unit {0}
IsRefusal names refusal (Elf bytes) = ⊥
