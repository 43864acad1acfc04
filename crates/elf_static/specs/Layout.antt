-- How an image lies in memory that is written.
use Rattle.std.specs.Prelude.{ℕ, ◌≡◌, ◌+◌, ◌-◌, ◌*◌, ◌/◌, List, [], ◌∷◌, length}
use Rattle.elf_static.specs.declared.image.Image.{Image}
use Rattle.elf_static.specs.declared.image.Segment.{Segment}
use Rattle.elf_static.specs.Load.{IsLoadable}
use Rattle.elf_static.specs.Table.{IsRightTable}

-- the next multiple of n
abbrev pub round_up : ℕ → ℕ → ℕ
round_up n k = (k + (n - 1)) / n * n

-- the text may be executed (5 is to read and to execute)
abbrev pub text_segment : List ℕ → Segment
text_segment text = record { address = 0x10000; flags = 5; bytes = text; size = length text }

-- the read-only data begin at the next multiple of 4,096 behind the text (4 is to read)
abbrev pub read_only_segment : List ℕ → List ℕ → Segment
read_only_segment text read_only = record { address = round_up 4096 (0x10000 + length text); flags = 4; bytes = read_only; size = length read_only }

-- at the next multiple behind them memory that may be written begins, with no bytes in the file (6 is to read and to write):
-- 8,192 bytes of its own, the slots of variables, and the arena, in words of eight bytes
abbrev pub writable_segment : List ℕ → List ℕ → ℕ → ℕ → Segment
writable_segment text read_only slots arena_words = record {
  address = round_up 4096 (round_up 4096 (0x10000 + length text) + length read_only);
  flags = 6;
  bytes = [];
  size = 8192 + 8 * slots + 8 * arena_words;
}

-- an image that can be loaded, with these three segments, the text's first address as its entry, and a table of entries that is right
pub record IsLaidOut (image : Image) : Type 0 where
  pub loadable : IsLoadable image
  pub entry : image.entry ≡ 0x10000
  pub text : List ℕ
  pub read_only : List ℕ
  pub slots : ℕ
  pub segments : image.segments ≡ text_segment text ∷ read_only_segment text read_only ∷ writable_segment text read_only slots image.entries.arena_words ∷ []
  pub table : IsRightTable image.segments image.entries
