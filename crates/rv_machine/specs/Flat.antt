-- Where each segment of an image stands in the machine's memory.
use Rattle.std.specs.Prelude.{ℕ, zero, suc, ◌≡◌, ◌+◌, ◌-◌, ◌*◌, ◌/◌, ◌%◌, ◌<◌, ◌≤◌, Bool, true, ◌||◌, ◌==◌, List, [], ◌∷◌, ◌++◌, length, replicate, slice_range, Some}
use Rattle.elf_static.specs.declared.image.Segment.{Segment}
use Rattle.elf_static.specs.declared.image.Image.{Image}
use Rattle.elf_static.specs.Layout.{text_segment, read_only_segment, writable_segment, IsLaidOut}
use Rattle.rv_machine.specs.Memory.{segment_bytes}
use Rattle.rv_machine.specs.Load.{loaded}
use Rattle.rv_machine.specs.State.{State, located}

-- the segment has the right, or none is asked for
abbrev pub has_right : Segment → ℕ → Bool
has_right s right = right == 0 || s.flags / right % 2 == 1

-- The segment's bytes stand from this place on, and each range of some of its addresses is found there, with each right that it has.
pub record IsStored (state : State) (s : Segment) (place : ℕ) : Type 0 where
  pub found : (right address n : ℕ) → has_right s right ≡ true → s.address ≤ address → 0 < n → address + n ≤ s.address + s.size → located state right address n ≡ Some (place + (address - s.address))
  pub bytes : slice_range state.bytes place (place + s.size) ≡ segment_bytes s

-- the sizes of the first i segments
abbrev pub size_before : List Segment → ℕ → ℕ
size_before [] i = 0
size_before (s ∷ ss) zero = 0
size_before (s ∷ ss) (suc i) = s.size + size_before ss i

-- the text, the read-only data, and zeros
abbrev pub flat : List ℕ → List ℕ → ℕ → ℕ → List ℕ
flat text read_only slots arena_words = text ++ (read_only ++ replicate (8192 + 8 * slots + 8 * arena_words) 0)

-- the memory of an image that is laid out, whose three segments stand one behind the other
pub record IsFlat (image : Image) (laid : IsLaidOut image) : Type 0 where
  pub bytes : (loaded image).bytes ≡ flat laid.text laid.read_only laid.slots image.entries.arena_words
  pub text : IsStored (loaded image) (text_segment laid.text) 0
  pub read_only : IsStored (loaded image) (read_only_segment laid.text laid.read_only) (length laid.text)
  pub writable : IsStored (loaded image) (writable_segment laid.text laid.read_only laid.slots image.entries.arena_words) (length laid.text + length laid.read_only)
