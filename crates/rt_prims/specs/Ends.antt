-- Routines that end a run, and those that raise an exception of the library.
use Rattle.std.specs.Prelude.{ℕ, pos, negsuc, List, [], ◌∷◌, ◌++◌}
use Rattle.rv_isa.specs.declared.table.Op.TheVariants.{Addi, Andi, Add, Sub, Srli, Beq, Bne, Ld, Lw, Lwu, Jal, Jalr, Ecall}
use Rattle.rt_prims.specs.declared.line.Datum.{Datum}
use Rattle.rt_prims.specs.declared.line.Datum.TheVariants.{Arena, LineFront, LineBack}
use Rattle.rt_prims.specs.declared.line.Line.{Line}
use Rattle.rt_prims.specs.declared.line.Line.TheVariants.{R, I, S, U, Plain, Address}

-- the run ends with this status
abbrev pub exit : ℕ → List Line
exit status = I Addi 10 0 (pos status) ∷ I Addi 17 0 (pos 93) ∷ Plain Ecall ∷ []

-- x11 becomes the number of words below x8, and the status is 3
abbrev pub full : List Line
full = Address 5 Arena ∷ R Sub 11 8 5 ∷ I Srli 11 11 (pos 3) ∷ exit 3

abbrev pub halt : List Line
halt = exit 0

-- x12 bytes from x11 on are written to a stream, until all are taken; x17 has the number of the call
abbrev pub written_to : ℕ → List Line
written_to stream =
    S Beq 12 0 (pos 24) ∷ I Addi 10 0 (pos stream) ∷ Plain Ecall ∷ R Add 11 11 10 ∷ R Sub 12 12 10 ∷ U Jal 0 (negsuc 19) ∷ []

-- n bytes of a static string are written to the error stream
abbrev pub static_told : Datum → ℕ → List Line
static_told text n = Address 11 text ∷ I Addi 11 11 (pos 8) ∷ I Addi 12 0 (pos n) ∷ written_to 2

-- The name of the packet in x11 is its first field, or the packet itself where it is a name. The text of the name stands between the two parts of the line.
abbrev pub uncaught : List Line
uncaught =
    (I Addi 17 0 (pos 64) ∷ I Lw 5 11 (pos 0) ∷ I Andi 5 5 (pos 7) ∷ I Addi 5 5 (negsuc 4) ∷ S Bne 5 0 (pos 8) ∷ I Ld 11 11 (pos 8) ∷ I Ld 7 11 (pos 8) ∷ [])
    ++ (static_told LineFront 19 ++ (I Addi 11 7 (pos 8) ∷ I Lwu 12 7 (pos 4) ∷ (written_to 2 ++ (static_told LineBack 1 ++ exit 1))))

-- the handler is called with the static block of the name
abbrev pub raise : Datum → List Line
raise name = Address 11 name ∷ I Addi 10 18 (pos 0) ∷ I Ld 31 18 (pos 8) ∷ I Jalr 0 31 (pos 0) ∷ []
