-- Images that can be loaded.
use Rattle.std.specs.Prelude.{ℕ, ◌≡◌, ◌+◌, ◌%◌, ◌<◌, ◌≤◌, ◌^◌, ◌⊎◌, List, length, All, Any, AllPairs, sum_by}
use Rattle.elf_static.specs.declared.image.Image.{Image}
use Rattle.elf_static.specs.declared.image.Segment.{Segment}

-- a segment has no more bytes than its size
abbrev pub IsFilled : Segment → Type 0
IsFilled s = length s.bytes ≤ s.size

abbrev pub size_of : Segment → ℕ
size_of s = s.size

-- the sizes are together at most 2 ^ 31
pub record HasRoom (segments : List Segment) : Type 0 where
  pub filled : All IsFilled segments
  pub sizes : sum_by size_of segments ≤ 2 ^ 31

-- the addresses of a segment end at 2 ^ 63 or before
abbrev pub EndsInRange : Segment → Type 0
EndsInRange s = s.address + s.size ≤ 2 ^ 63

-- no address is one of both
abbrev pub IsApart : Segment → Segment → Type 0
IsApart s t = (s.size ≡ 0) ⊎ ((t.size ≡ 0) ⊎ ((s.address + s.size ≤ t.address) ⊎ (t.address + t.size ≤ s.address)))

-- an address of a segment that may be executed
abbrev pub IsEntry : ℕ → Segment → Type 0
IsEntry a s = (s.flags % 2 ≡ 1) × (s.address ≤ a) × (a < s.address + s.size)

-- at most 64 segments that have room, end in range and have no address in common, and an entry that is a multiple of 4 in one that may be executed
pub record IsLoadable (image : Image) : Type 0 where
  pub count : length image.segments ≤ 64
  pub room : HasRoom image.segments
  pub range : All EndsInRange image.segments
  pub apart : AllPairs IsApart image.segments
  pub aligned : image.entry % 4 ≡ 0
  pub entry : Any (IsEntry image.entry) image.segments
