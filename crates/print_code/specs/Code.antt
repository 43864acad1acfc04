-- The straight code of prints.
use Rattle.std.specs.Prelude.{ℕ, pos, negsuc, ℤ, ◌+◌, ◌-◌, ◌*◌, ◌/◌, ◌%◌, List, [], ◌∷◌, ◌++◌, length, codes, All, ◌≡◌, ◌<◌, ◌≤◌, nat_lt, if◌then◌else◌}
use Rattle.std.specs.Int.{w32, to_le_bytes}
use Rattle.rv_isa.specs.declared.table.Op.TheVariants.{Lui, Addi, Add, Sub, Bne, Ecall}
use Rattle.rv_isa.specs.declared.word.Ins.{Ins}
use Rattle.rv_isa.specs.Word.{ins, word_of}
use Rattle.elf_static.specs.declared.image.Image.{Image}
use Rattle.elf_static.specs.Layout.{text_segment, read_only_segment, writable_segment}
use Rattle.elf_static.specs.Table.{no_entries}
use Rattle.smlc_jobs.specs.Texts.{newline}

-- the plan of straight code: no closure outlives what it is for, and no value is kept in memory for want of a register
abbrev pub plan_text : List ℕ
plan_text = codes "factor 1" ++ newline ++ codes "spill 0" ++ newline

abbrev pub high_part : ℕ → ℤ
high_part n = pos ((n + 2048) / 4096 * 4096)

abbrev pub low_part : ℕ → ℤ
low_part n = if nat_lt (n % 4096) 2048 then pos (n % 4096) else negsuc (4095 - n % 4096)

-- one turn of the loop that writes the x12 bytes from x11 on
abbrev pub loop_code : List Ins
loop_code = ins Addi 10 0 0 (pos 1) ∷ ins Addi 17 0 0 (pos 64) ∷ ins Ecall 0 0 0 (pos 0) ∷ ins Add 11 11 10 (pos 0) ∷ ins Sub 12 12 10 (pos 0) ∷ ins Bne 0 12 0 (negsuc 19) ∷ []

abbrev pub piece_code : ℕ → List Ins
piece_code n = ins Lui 12 0 0 (high_part n) ∷ ins Addi 12 12 0 (low_part n) ∷ loop_code

abbrev pub exit_code : List Ins
exit_code = ins Addi 17 0 0 (pos 93) ∷ ins Addi 10 0 0 (pos 0) ∷ ins Ecall 0 0 0 (pos 0) ∷ []

-- the pieces' loops, and the exit
abbrev pub pieces_code : List ℕ → List Ins
pieces_code [] = exit_code
pieces_code (n ∷ ns) = piece_code n ++ pieces_code ns

-- where the text stands
abbrev pub data_at : List ℕ → ℕ
data_at lengths = 65536 + (length lengths * 32 + 16 + 4095) / 4096 * 4096

abbrev pub whole_code : List ℕ → List Ins
whole_code lengths = ins Lui 11 0 0 (pos (data_at lengths)) ∷ pieces_code lengths

abbrev pub bytes_of : List Ins → List ℕ
bytes_of [] = []
bytes_of (i ∷ is) = to_le_bytes w32 (word_of i) ++ bytes_of is

-- the code, the text as read-only data, and memory that may be written, with no slots and no arena
abbrev pub image_of : List ℕ → List ℕ → Image
image_of lengths text = let code = bytes_of (whole_code lengths) in record {
  entry = 65536;
  segments = text_segment code ∷ read_only_segment code text ∷ writable_segment code text 0 0 ∷ [];
  entries = no_entries;
  plan = plan_text;
}

abbrev pub total : List ℕ → ℕ
total [] = 0
total (n ∷ ns) = n + total ns

abbrev pub IsPositive : ℕ → Type 0
IsPositive n = 0 < n

-- pieces that aren't empty, of these lengths, are together a text that isn't too long
pub record IsStraight (lengths text : List ℕ) : Type 0 where
  pub sums : total lengths ≡ length text
  pub positive : All IsPositive lengths
  pub bounded : length text ≤ 1048576
