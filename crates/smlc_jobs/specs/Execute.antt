-- What the run of an image, and of the bytes of an ELF file, comes to.
use Rattle.std.specs.Prelude.{ℕ, ◌≡◌, ◌≤◌, List, [], Ok, Err}
use Rattle.smlc_edge.specs.Edge.{Rose, Fails}
use Rattle.elf_static.specs.declared.image.Image.{Image}
use Rattle.elf_static.specs.declared.error.ElfKind.{ElfKind}
use Rattle.elf_static.specs.declared.error.ElfError.{ElfError}
use Rattle.elf_static.specs.declared.error.ElfError.TheVariants as elf
use Rattle.elf_static.specs.Reading.{meaning_of}
use Rattle.rv_machine.specs.Run.{Runs, Trapped}
use Rattle.smlc_jobs.specs.declared.outcome.Outcome.{Outcome}
use Rattle.smlc_jobs.specs.declared.outcome.Outcome.TheVariants as outcome
use Rattle.smlc_jobs.specs.Runs.{Tally, IsSame, Intake, TakesNothing, IsRun, IsExit, IsMidway}

-- an image was run
pub data RanImage (image : Image) (steps : ℕ) (before after : Tally) (input : Intake) (out err : List ℕ) : Outcome → Type 0 where
  exited : (status x11 x12 : ℕ) → IsExit image input steps status x11 x12 out err → IsSame before after → RanImage image steps before after input out err (outcome.Exited status x11 x12)
  went_on : IsRun image input steps Runs out err → IsSame before after → RanImage image steps before after input out err (outcome.Steps steps)
  trapped : (pc word : ℕ) → IsRun image input steps (Trapped pc word) out err → IsSame before after → RanImage image steps before after input out err (outcome.Trapped pc word)
  had_no_memory : out ≡ [] → err ≡ [] → TakesNothing input → IsSame before after → RanImage image steps before after input out err outcome.NoMemory
  input_fault : Fails before.input after.input → before.err ≤ after.err → IsMidway image input steps out err → RanImage image steps before after input out err outcome.InputFault
  out_fault : Rose before.out after.out → before.err ≤ after.err → IsMidway image input steps out err → RanImage image steps before after input out err outcome.OutFault
  err_fault : Fails before.err after.err → IsMidway image input steps out err → RanImage image steps before after input out err outcome.ErrFault

-- the bytes of an ELF file were read, and its image was run
pub data Executed (bytes : List ℕ) (steps : ℕ) (before after : Tally) (input : Intake) (out err : List ℕ) : Outcome → Type 0 where
  of_image : (image : Image) (o : Outcome) → meaning_of bytes ≡ Ok image → RanImage image steps before after input out err o → Executed bytes steps before after input out err o
  not_read : (kind : ElfKind) (at : ℕ) → meaning_of bytes ≡ Err (elf.NotElf kind at) → out ≡ [] → err ≡ [] → TakesNothing input → IsSame before after → Executed bytes steps before after input out err (outcome.NotElf kind at)
  read_memory : out ≡ [] → err ≡ [] → TakesNothing input → IsSame before after → Executed bytes steps before after input out err outcome.NoMemory

-- the outcome of a file that wasn't read
abbrev pub unread : ElfError → Outcome
unread (elf.NotElf kind at) = outcome.NotElf kind at
unread elf.NoMemory = outcome.NoMemory
