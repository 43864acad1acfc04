-- The lines that the program writes on its error stream.
use Rattle.std.specs.Prelude.{ℕ, ◌-◌, List, [], ◌∷◌, ◌++◌, codes, get_or}
use Rattle.std.specs.Fmt.{decimal}
use Rattle.std.specs.Int.{w32, w64, to_be_bytes}
use Rattle.hex.specs.Hex.{encode_lower}
use Rattle.smlc_base.specs.declared.place.Place.{Place}
use Rattle.smlc_base.specs.declared.refusal.Refusal.{Refusal}
use Rattle.smlc_base.specs.declared.refusal.Refusal.TheVariants.{NotInSubset}
use Rattle.smlc_base.specs.Refusals.{number_of, kind_of, place_of, word_of}
use Rattle.elf_static.specs.declared.error.ElfKind.{ElfKind}
use Rattle.elf_static.specs.Kinds.{word_of as word_of_kind}

abbrev pub newline : List ℕ
newline = 10 ∷ []

-- the name of this number, from 0 on
abbrev pub name_at : List (List ℕ) → ℕ → List ℕ
name_at names i = get_or names i []

-- FILE:LINE:COL:
abbrev pub place_text : List ℕ → Place → List ℕ
place_text name place = name ++ codes ":" ++ decimal place.line ++ codes ":" ++ decimal place.col ++ codes ":"

-- the word that is banned, behind a space
abbrev pub banned_text : Refusal → List ℕ
banned_text (NotInSubset place banned) = codes " " ++ word_of banned
banned_text _ = []

-- FILE:LINE:COL: refused NUMBER KIND, with the word behind NotInSubset
abbrev pub refusal_line : List ℕ → Refusal → List ℕ
refusal_line name refusal = place_text name (place_of refusal) ++ codes " refused " ++ decimal (number_of refusal) ++ codes " " ++ kind_of refusal ++ banned_text refusal ++ newline

-- so for a refusal of the files of these names, whose place counts them from 1 on
abbrev pub refused_line : List (List ℕ) → Refusal → List ℕ
refused_line names refusal = refusal_line (name_at names ((place_of refusal).file - 1)) refusal

abbrev pub usage_line : List ℕ
usage_line = codes "usage: smlc compile|run|meter|exec|types|plan|gen|bench" ++ newline

abbrev pub memory_line : List ℕ
memory_line = codes "want of memory" ++ newline

abbrev pub store_line : List ℕ → List ℕ
store_line name = codes "fault store " ++ name ++ newline

abbrev pub input_line : List ℕ
input_line = codes "fault input" ++ newline

abbrev pub out_line : List ℕ
out_line = codes "fault out" ++ newline

-- so many instructions were done
abbrev pub steps_line : ℕ → List ℕ
steps_line n = codes "steps " ++ decimal n ++ newline

-- the program exited with this status
abbrev pub exit_line : ℕ → List ℕ
exit_line status = codes "exit " ++ decimal status ++ newline

-- the words of the arena that were used, those of the record that found no room, and those of the whole arena
abbrev pub full_line : ℕ → ℕ → ℕ → List ℕ
full_line used next arena = codes "arena used " ++ decimal used ++ (codes " next " ++ decimal next ++ (codes " of " ++ decimal arena ++ newline))

-- the check that failed, and its offset in the file
abbrev pub elf_line : ElfKind → ℕ → List ℕ
elf_line kind at = codes "not elf " ++ word_of_kind kind ++ (codes " at " ++ decimal at ++ newline)

-- there is no step: pc and the word there, in 16 and 8 hexadecimal digits
abbrev pub trap_line : ℕ → ℕ → List ℕ
trap_line pc word = codes "trap " ++ encode_lower (to_be_bytes w64 pc) ++ (codes " " ++ encode_lower (to_be_bytes w32 word) ++ newline)
