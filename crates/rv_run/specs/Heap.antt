-- Words of the arena, and headers: a kind in bits 0 to 2, a tag in bits 3 to 31, and a length in bits 32 to 63.
use Rattle.std.specs.Prelude.{ℕ, ◌+◌, ◌*◌, ◌/◌, ◌%◌, ◌==◌, Bool, Option, if◌then◌else◌}
use Rattle.rv_machine.specs.State.{State}
use Rattle.rv_machine.specs.Step.{double_of}

-- word j of the arena
abbrev pub heap_word : ℕ → State → ℕ → Option ℕ
heap_word arena s j = double_of s (arena + 8 * j)

abbrev pub kind_bits : ℕ → ℕ
kind_bits h = h % 8

abbrev pub tag_of : ℕ → ℕ
tag_of h = h / 8 % 536870912

abbrev pub length_of : ℕ → ℕ
length_of h = h / 4294967296

-- a string, whose length is in bytes and whose words aren't scanned
abbrev pub is_string : ℕ → Bool
is_string h = kind_bits h == 2

-- how many words stand behind a header
abbrev pub body_words : ℕ → ℕ
body_words h = if is_string h then (length_of h + 7) / 8 else length_of h
