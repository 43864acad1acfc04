-- The comparison of two values. Its beginning is jumped to with the values in x5 and x6, the truth value in x7 and the continuation in x12. A turn has
-- the truth value in x10, the first pending pair or 0 in x11, and the continuation in x12. It goes on at the continuation with the truth value, or with its
-- opposite where the values differ.
use Rattle.std.specs.Prelude.{ℤ, pos, negsuc, List, [], ◌∷◌, ◌++◌}
use Rattle.rv_isa.specs.declared.table.Op.TheVariants.{Addi, Andi, Xori, Slli, Add, Or, Beq, Bne, Ld, Lw, Lwu, Sd, Jal, Jalr}
use Rattle.rt_prims.specs.declared.line.Routine.TheVariants.{Compare}
use Rattle.rt_prims.specs.declared.line.Line.{Line}
use Rattle.rt_prims.specs.declared.line.Line.TheVariants.{R, I, S, U, Link}
use Rattle.rt_prims.specs.Strings.{room_for}

-- Where one is a number both are words. x31 becomes the kind of the first block.
abbrev pub kind_of : ℤ → List Line
kind_of to_words = R Or 31 5 6 ∷ I Andi 31 31 (pos 1) ∷ S Bne 31 0 to_words ∷ I Lw 31 5 (pos 0) ∷ I Andi 31 31 (pos 7) ∷ []

-- two strings: x5 is 0 where they are equal
abbrev pub strings_compared : List Line
strings_compared = Link Compare ∷ I Jalr 31 31 (pos 0) ∷ I Addi 5 5 (negsuc 2) ∷ []

-- a pending pair in front of the list, whose two words are put by lines between
abbrev pub pair_put : List Line → List Line
pair_put words =
    room_for 31 4 32
    ++ (I Addi 31 0 (pos 3) ∷ I Slli 31 31 (pos 32) ∷ I Addi 31 31 (pos 7) ∷ S Sd 8 31 (pos 0)
    ∷ (words ++ (S Sd 8 11 (pos 24) ∷ I Addi 11 8 (pos 0) ∷ I Addi 8 8 (pos 32) ∷ [])))

-- Two tuples or two constructors with arguments make a list of one pair, and a turn follows. Strings are compared by bytes, all else by words.
abbrev pub equal : List Line
equal =
    I Addi 10 7 (pos 0)
    ∷ (kind_of (pos 60)
    ++ (S Beq 31 0 (pos 60) ∷ I Addi 31 31 (negsuc 0) ∷ S Beq 31 0 (pos 52) ∷ I Addi 31 31 (negsuc 0) ∷ S Bne 31 0 (pos 32)
    ∷ (strings_compared
    ++ (S Beq 5 0 (pos 16)
    ∷ I Xori 11 10 (pos 2) ∷ U Jal 0 (pos 84)
    ∷ S Bne 5 6 (negsuc 7) ∷ I Addi 11 10 (pos 0) ∷ U Jal 0 (pos 72)
    ∷ I Addi 11 0 (pos 0) ∷ pair_put (S Sd 8 5 (pos 8) ∷ S Sd 8 6 (pos 16) ∷ [])))))

-- ---- a turn

-- where no pair is left, the truth value is delivered; else the first pair is taken off
abbrev pub pair_taken : List Line
pair_taken =
    S Bne 11 0 (pos 20) ∷ I Addi 11 10 (pos 0)
    ∷ I Addi 10 12 (pos 0) ∷ I Ld 31 10 (pos 8) ∷ I Jalr 0 31 (pos 0)
    ∷ I Ld 5 11 (pos 8) ∷ I Ld 6 11 (pos 16) ∷ I Ld 11 11 (pos 24) ∷ []

-- Strings and words: the next turn, or the opposite. Constructors have equal headers, or the opposite, and one field; tuples as many as they say.
abbrev pub pair_decided : List Line
pair_decided =
    kind_of (pos 56)
    ++ (S Beq 31 0 (pos 72) ∷ I Addi 31 31 (negsuc 0) ∷ S Beq 31 0 (pos 44) ∷ I Addi 31 31 (negsuc 0) ∷ S Bne 31 0 (pos 28)
    ∷ (strings_compared
    ++ (S Beq 5 0 (negsuc 87) ∷ U Jal 0 (negsuc 171)
    ∷ S Beq 5 6 (negsuc 95) ∷ U Jal 0 (negsuc 179)
    ∷ I Ld 7 5 (pos 0) ∷ I Ld 31 6 (pos 0) ∷ S Bne 7 31 (negsuc 191) ∷ I Addi 7 0 (pos 8) ∷ U Jal 0 (pos 12)
    ∷ I Lwu 7 5 (pos 4) ∷ I Slli 7 7 (pos 3) ∷ R Add 5 5 7 ∷ R Add 6 6 7 ∷ [])))

-- the pairs of the fields, from the last to the first
abbrev pub fields_paired : List Line
fields_paired =
    pair_put (I Ld 31 5 (pos 0) ∷ S Sd 8 31 (pos 8) ∷ I Ld 31 6 (pos 0) ∷ S Sd 8 31 (pos 16) ∷ [])
    ++ (I Addi 5 5 (negsuc 7) ∷ I Addi 6 6 (negsuc 7) ∷ I Addi 7 7 (negsuc 7) ∷ S Bne 7 0 (negsuc 75) ∷ U Jal 0 (negsuc 219) ∷ [])

abbrev pub turn : List Line
turn = pair_taken ++ (pair_decided ++ fields_paired)
