-- Routines that write and read. They keep what a system call takes, x10 to x12 and x17, in the save area too.
use Rattle.std.specs.Prelude.{pos, negsuc, List, [], ◌∷◌, ◌++◌}
use Rattle.rv_isa.specs.declared.table.Op.TheVariants.{Lui, Addi, Andi, Slli, Srli, Add, Beq, Bne, Bltu, Lbu, Lwu, Ld, Sb, Sd, Jal, Ecall}
use Rattle.rt_prims.specs.declared.line.Datum.TheVariants.{Segment, Save, ArenaEnd}
use Rattle.rt_prims.specs.declared.line.Line.{Line}
use Rattle.rt_prims.specs.declared.line.Line.TheVariants.{R, I, S, U, Plain, Address}
use Rattle.rt_prims.specs.Ends.{written_to}
use Rattle.rt_prims.specs.Strings.{returns, room_to, room_for, made}

-- a string is written to the output
abbrev pub print : List Line
print =
    Address 9 Save ∷ S Sd 9 10 (pos 0) ∷ S Sd 9 11 (pos 8) ∷ S Sd 9 12 (pos 16) ∷ S Sd 9 17 (pos 24) ∷ I Addi 11 5 (pos 8) ∷ I Lwu 12 5 (pos 4) ∷ I Addi 17 0 (pos 64)
    ∷ (written_to 1 ++ (Address 9 Save ∷ I Ld 10 9 (pos 0) ∷ I Ld 11 9 (pos 8) ∷ I Ld 12 9 (pos 16) ∷ I Ld 17 9 (pos 24) ∷ Address 9 ArenaEnd ∷ returns))

-- ---- a line of the input

-- Registers are saved. x28 is the segment, which begins with the buffer: its first byte and its last, and whether the input has ended. x29 counts bytes.
abbrev pub line_begun : List Line
line_begun =
    Address 9 Save ∷ S Sd 9 28 (pos 0) ∷ S Sd 9 29 (pos 8) ∷ S Sd 9 30 (pos 16) ∷ S Sd 9 10 (pos 24) ∷ S Sd 9 11 (pos 32) ∷ S Sd 9 12 (pos 40) ∷ S Sd 9 17 (pos 48)
    ∷ Address 9 ArenaEnd ∷ Address 28 Segment ∷ I Addi 29 0 (pos 0) ∷ []

-- Where no byte is left and the input hasn't ended, 4,096 bytes are asked for, and it begins anew. A read of 0 ends the input.
abbrev pub line_filled : List Line
line_filled =
    I Ld 5 28 (pos 0) ∷ I Ld 6 28 (pos 8) ∷ S Bltu 5 6 (pos 68) ∷ I Ld 7 28 (pos 16) ∷ S Bne 7 0 (pos 48)
    ∷ I Addi 17 0 (pos 63) ∷ I Addi 10 0 (pos 0) ∷ I Addi 11 28 (pos 32) ∷ U Lui 12 (pos 4096) ∷ Plain Ecall ∷ S Beq 10 0 (pos 16)
    ∷ S Sd 28 0 (pos 0) ∷ S Sd 28 10 (pos 8) ∷ U Jal 0 (negsuc 51)
    ∷ I Addi 7 0 (pos 1) ∷ S Sd 28 7 (pos 16) ∷ []

-- x7 is the next byte: at the end of the input a newline, if there was a byte in front of it, and else there is no line
abbrev pub line_byte : List Line
line_byte =
    S Beq 29 0 (pos 168) ∷ I Addi 7 0 (pos 10) ∷ U Jal 0 (pos 20)
    ∷ R Add 6 28 5 ∷ I Lbu 7 6 (pos 32) ∷ I Addi 5 5 (pos 1) ∷ S Sd 28 5 (pos 0) ∷ []

-- The byte is put behind those of the line. Before that there is room for its word, and a new word is zero.
abbrev pub line_put : List Line
line_put =
    I Srli 6 29 (pos 3) ∷ I Slli 6 6 (pos 3) ∷ R Add 6 8 6 ∷ I Addi 5 6 (pos 16)
    ∷ (room_to 5
    ++ (I Andi 5 29 (pos 7) ∷ S Bne 5 0 (pos 8) ∷ S Sd 6 0 (pos 8) ∷ R Add 5 8 29 ∷ S Sb 5 7 (pos 8) ∷ I Addi 29 29 (pos 1) ∷ I Addi 7 7 (negsuc 9)
    ∷ S Bne 7 0 (negsuc 155) ∷ []))

-- behind a newline the string has its header, and the answer is `SOME` of it
abbrev pub line_some : List Line
line_some =
    I Slli 5 29 (pos 32) ∷ I Addi 5 5 (pos 2) ∷ S Sd 8 5 (pos 0) ∷ I Addi 30 8 (pos 0) ∷ I Addi 8 6 (pos 16)
    ∷ (room_for 7 2 16 ++ (I Addi 5 0 (pos 1) ∷ I Slli 5 5 (pos 32) ∷ I Addi 5 5 (pos 9) ∷ S Sd 8 5 (pos 0) ∷ S Sd 8 30 (pos 8) ∷ (made ++ (U Jal 0 (pos 8) ∷ []))))

abbrev pub line_none : List Line
line_none = I Addi 5 0 (pos 1) ∷ []

abbrev pub line_done : List Line
line_done =
    Address 9 Save ∷ I Ld 28 9 (pos 0) ∷ I Ld 29 9 (pos 8) ∷ I Ld 30 9 (pos 16) ∷ I Ld 10 9 (pos 24) ∷ I Ld 11 9 (pos 32) ∷ I Ld 12 9 (pos 40) ∷ I Ld 17 9 (pos 48)
    ∷ Address 9 ArenaEnd ∷ returns

abbrev pub input_line : List Line
input_line = line_begun ++ (line_filled ++ (line_byte ++ (line_put ++ (line_some ++ (line_none ++ line_done)))))
