-- Routines on strings. Arguments come in x5, x6 and x7 and the link in x31, and the result is left in x5. x28 to x30 are kept in the save area, which
-- is reached through x9; x9 is the arena's end again where a routine returns.
use Rattle.std.specs.Prelude.{ℕ, pos, negsuc, List, [], ◌∷◌, ◌++◌}
use Rattle.rv_isa.specs.declared.table.Op.TheVariants.{Addi, Andi, Slli, Srli, Srai, Add, Sub, Slt, Beq, Bne, Blt, Bltu, Bgeu, Lbu, Lwu, Ld, Sb, Sd, Jal, Jalr}
use Rattle.rt_prims.specs.declared.line.Routine.TheVariants.{Full, Subscript}
use Rattle.rt_prims.specs.declared.line.Datum.TheVariants.{Save, ArenaEnd}
use Rattle.rt_prims.specs.declared.line.Line.{Line}
use Rattle.rt_prims.specs.declared.line.Line.TheVariants.{R, I, S, U, Jump, Address}

-- ---- parts

abbrev pub returns : List Line
returns = I Jalr 0 31 (pos 0) ∷ []

abbrev pub save_three : List Line
save_three = Address 9 Save ∷ S Sd 9 28 (pos 0) ∷ S Sd 9 29 (pos 8) ∷ S Sd 9 30 (pos 16) ∷ Address 9 ArenaEnd ∷ []

abbrev pub load_three : List Line
load_three = Address 9 Save ∷ I Ld 28 9 (pos 0) ∷ I Ld 29 9 (pos 8) ∷ I Ld 30 9 (pos 16) ∷ Address 9 ArenaEnd ∷ returns

-- where the arena ends before the next free byte that is in `next`, it is full, and x12 has the words between
abbrev pub room_to : ℕ → List Line
room_to next = S Bgeu 9 next (pos 20) ∷ R Sub 12 next 8 ∷ I Srli 12 12 (pos 3) ∷ Jump Full ∷ []

-- the same for so many words, and `next` is made
abbrev pub room_for : ℕ → ℕ → ℕ → List Line
room_for next words bytes = I Addi next 8 (pos bytes) ∷ S Bgeu 9 next (pos 16) ∷ I Addi 12 0 (pos words) ∷ Jump Full ∷ []

-- Room for a string whose length is in `count`, to the next free byte in x7. Its last word is zero, then its header is written.
abbrev pub string_room : ℕ → ℕ → List Line
string_room count header =
    I Addi 7 count (pos 7) ∷ I Srli 7 7 (pos 3) ∷ I Slli 7 7 (pos 3) ∷ I Addi 7 7 (pos 8) ∷ R Add 7 8 7
    ∷ (room_to 7 ++ (S Sd 7 0 (negsuc 7) ∷ I Slli header count (pos 32) ∷ I Addi header header (pos 2) ∷ S Sd 8 header (pos 0) ∷ []))

-- while bytes are left, the one 8 behind `from` goes 8 behind `to`
abbrev pub bytes_copied : ℕ → ℕ → ℕ → ℕ → List Line
bytes_copied from to left byte =
    S Beq left 0 (pos 28) ∷ I Lbu byte from (pos 8) ∷ S Sb to byte (pos 8) ∷ I Addi from from (pos 1) ∷ I Addi to to (pos 1) ∷ I Addi left left (negsuc 0)
    ∷ U Jal 0 (negsuc 23) ∷ []

-- while 8 bytes are left, the word 8 behind x5 goes 8 behind x9
abbrev pub words_copied : List Line
words_copied =
    I Addi 30 28 (negsuc 7) ∷ S Blt 30 0 (pos 28) ∷ I Ld 30 5 (pos 8) ∷ S Sd 9 30 (pos 8) ∷ I Addi 5 5 (pos 8) ∷ I Addi 9 9 (pos 8) ∷ I Addi 28 28 (negsuc 7)
    ∷ U Jal 0 (negsuc 27) ∷ []

-- the new block is the result, and what is free begins behind it
abbrev pub made : List Line
made = I Addi 5 8 (pos 0) ∷ I Addi 8 7 (pos 0) ∷ []

-- a character from its byte
abbrev pub as_value : List Line
as_value = I Slli 5 5 (pos 1) ∷ I Addi 5 5 (pos 1) ∷ returns

-- ---- routines

-- two strings: whole words of the first, then its last bytes and those of the second
abbrev pub concat : List Line
concat =
    save_three
    ++ (I Lwu 28 5 (pos 4) ∷ I Lwu 29 6 (pos 4) ∷ R Add 29 28 29
    ∷ (string_room 29 30 ++ (R Sub 29 29 28 ∷ I Addi 9 8 (pos 0) ∷ (words_copied ++ (bytes_copied 5 9 28 30 ++ (bytes_copied 6 9 29 30 ++ (made ++ load_three)))))))

abbrev pub size : List Line
size = I Lwu 5 5 (pos 4) ∷ as_value

-- the character of a string at an index
abbrev pub sub : List Line
sub = I Srai 6 6 (pos 1) ∷ I Lwu 7 5 (pos 4) ∷ S Bltu 6 7 (pos 12) ∷ Jump Subscript ∷ R Add 5 5 6 ∷ I Lbu 5 5 (pos 8) ∷ as_value

-- the part of a string from an index on of so many bytes, both without sign
abbrev pub substring : List Line
substring =
    save_three
    ++ (I Lwu 28 5 (pos 4) ∷ I Srai 29 6 (pos 1) ∷ I Srai 30 7 (pos 1) ∷ S Bltu 28 29 (pos 12) ∷ R Sub 28 28 29 ∷ S Bgeu 28 30 (pos 12) ∷ Jump Subscript ∷ R Add 5 5 29
    ∷ (string_room 30 6 ++ (I Addi 6 8 (pos 0) ∷ (bytes_copied 5 6 30 29 ++ (made ++ load_three)))))

-- a string of one character, whose word is its byte
abbrev pub str_of : List Line
str_of =
    room_for 7 2 16
    ++ (I Addi 6 0 (pos 1) ∷ I Slli 6 6 (pos 32) ∷ I Addi 6 6 (pos 2) ∷ S Sd 8 6 (pos 0) ∷ I Srli 5 5 (pos 1) ∷ S Sd 8 5 (pos 8) ∷ (made ++ returns))

-- a string of a list of characters: first they are counted
abbrev pub implode : List Line
implode =
    save_three
    ++ (I Addi 6 5 (pos 0) ∷ I Addi 29 0 (pos 0)
    ∷ I Andi 28 6 (pos 1) ∷ S Bne 28 0 (pos 20) ∷ I Ld 6 6 (pos 8) ∷ I Ld 6 6 (pos 16) ∷ I Addi 29 29 (pos 1) ∷ U Jal 0 (negsuc 19)
    ∷ (string_room 29 30
    ++ (I Addi 6 8 (pos 0)
    ∷ I Andi 28 5 (pos 1) ∷ S Bne 28 0 (pos 32) ∷ I Ld 5 5 (pos 8) ∷ I Ld 30 5 (pos 8) ∷ I Ld 5 5 (pos 16) ∷ I Srli 30 30 (pos 1) ∷ S Sb 6 30 (pos 8)
    ∷ I Addi 6 6 (pos 1) ∷ U Jal 0 (negsuc 31)
    ∷ (made ++ load_three))))

-- 1, 3 or 5 for less, equal or greater: what the lengths say, unless a byte differs
abbrev pub compare : List Line
compare =
    save_three
    ++ (I Lwu 7 5 (pos 4) ∷ I Lwu 28 6 (pos 4) ∷ R Slt 29 28 7 ∷ R Slt 30 7 28 ∷ R Sub 30 29 30 ∷ I Addi 29 7 (pos 0) ∷ S Bgeu 28 7 (pos 8) ∷ I Addi 29 28 (pos 0)
    ∷ I Slli 7 30 (pos 1) ∷ I Addi 7 7 (pos 3)
    ∷ S Beq 29 0 (pos 44) ∷ I Lbu 28 5 (pos 8) ∷ I Lbu 30 6 (pos 8) ∷ S Bne 28 30 (pos 20) ∷ I Addi 5 5 (pos 1) ∷ I Addi 6 6 (pos 1) ∷ I Addi 29 29 (negsuc 0)
    ∷ U Jal 0 (negsuc 27)
    ∷ I Addi 7 0 (pos 1) ∷ S Bltu 28 30 (pos 8) ∷ I Addi 7 0 (pos 5) ∷ I Addi 5 7 (pos 0) ∷ load_three)
