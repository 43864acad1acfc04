-- Every line of a routine fits, by a test that computes.
use Rattle.std.proofs.Common.{◌≡◌, ap, ℕ, ◌%◌, ◌<◌, ℤ, pos, negsuc, Bool, true, false, ◌&&◌, List, [], ◌∷◌, refl, arith}
use Rattle.std.specs.Prelude.{nat_lt, nat_eq}
use Rattle.std.specs.List.{All}
use Rattle.std.proofs.lemmas.List.Elements.{All-nil, All-cons}
use Rattle.rv_isa.specs.declared.table.Format.{Format}
use Rattle.rv_isa.specs.declared.table.Format.TheVariants.{R, I, S, B, U, J, Shift6, Shift5, Fixed}
use Rattle.rv_isa.specs.declared.word.Ins.{Ins}
use Rattle.rv_isa.specs.Table.{shape_of}
use Rattle.rv_isa.specs.Word.{ins, unsigned, IsWithin, IsBelow, FitsAs}
use Rattle.rt_prims.specs.declared.line.Routine.{Routine}
use Rattle.rt_prims.specs.declared.line.Routine.TheVariants as routine
use Rattle.rt_prims.specs.declared.line.Line.{Line}
use Rattle.rt_prims.specs.declared.line.Line.TheVariants as line
use Rattle.rt_prims.specs.Lines.{FitsLine}
use Rattle.rt_prims.specs.Text.{lines_of}

both : (a b : Bool) → (a && b) ≡ true → (a ≡ true) × (b ≡ true)
both true true e = (refl, refl)
both true false e = cc
both false b e = cc

below : (a b : ℕ) → nat_lt a b ≡ true → a < b
below a b e = grind arith

same : (a b : ℕ) → nat_eq a b ≡ true → a ≡ b
same a b e = grind arith

abbrev within : ℕ → ℤ → Bool
within h (pos n) = nat_lt n h
within h (negsuc n) = nat_lt n h

is_within : (h : ℕ) (z : ℤ) → within h z ≡ true → IsWithin h z
is_within h (pos n) e = below n h e
is_within h (negsuc n) e = below n h e

abbrev below_z : ℕ → ℤ → Bool
below_z m (pos n) = nat_lt n m
below_z m (negsuc n) = false

is_below : (m : ℕ) (z : ℤ) → below_z m z ≡ true → IsBelow m z
is_below m (pos n) e = below n m e
is_below m (negsuc n) e = cc

abbrev nothing : ℤ → Bool
nothing (pos n) = nat_eq n 0
nothing (negsuc n) = false

is_nothing : (z : ℤ) → nothing z ≡ true → z ≡ pos 0
is_nothing (pos n) e = ap pos (same n 0 e)
is_nothing (negsuc n) e = cc

abbrev fits_as : Format → Ins → Bool
fits_as R i = nat_lt i.rd 32 && (nat_lt i.rs1 32 && (nat_lt i.rs2 32 && nothing i.imm))
fits_as I i = nat_lt i.rd 32 && (nat_lt i.rs1 32 && (nat_eq i.rs2 0 && within 2048 i.imm))
fits_as S i = nat_eq i.rd 0 && (nat_lt i.rs1 32 && (nat_lt i.rs2 32 && within 2048 i.imm))
fits_as B i = nat_eq i.rd 0 && (nat_lt i.rs1 32 && (nat_lt i.rs2 32 && (within 4096 i.imm && nat_eq (unsigned 4096 i.imm % 2) 0)))
fits_as U i = nat_lt i.rd 32 && (nat_eq i.rs1 0 && (nat_eq i.rs2 0 && (within 2147483648 i.imm && nat_eq (unsigned 2147483648 i.imm % 4096) 0)))
fits_as J i = nat_lt i.rd 32 && (nat_eq i.rs1 0 && (nat_eq i.rs2 0 && (within 1048576 i.imm && nat_eq (unsigned 1048576 i.imm % 2) 0)))
fits_as Shift6 i = nat_lt i.rd 32 && (nat_lt i.rs1 32 && (nat_eq i.rs2 0 && below_z 64 i.imm))
fits_as Shift5 i = nat_lt i.rd 32 && (nat_lt i.rs1 32 && (nat_eq i.rs2 0 && below_z 32 i.imm))
fits_as Fixed i = nat_eq i.rd 0 && (nat_eq i.rs1 0 && (nat_eq i.rs2 0 && nothing i.imm))

does_fit : (f : Format) (i : Ins) → fits_as f i ≡ true → FitsAs f i
does_fit R i e = let a = both _ _ e in let b = both _ _ a.1 in let c = both _ _ b.1 in (below i.rd 32 a.0, below i.rs1 32 b.0, below i.rs2 32 c.0, is_nothing i.imm c.1)
does_fit I i e = let a = both _ _ e in let b = both _ _ a.1 in let c = both _ _ b.1 in (below i.rd 32 a.0, below i.rs1 32 b.0, same i.rs2 0 c.0, is_within 2048 i.imm c.1)
does_fit S i e = let a = both _ _ e in let b = both _ _ a.1 in let c = both _ _ b.1 in (same i.rd 0 a.0, below i.rs1 32 b.0, below i.rs2 32 c.0, is_within 2048 i.imm c.1)
does_fit B i e = let a = both _ _ e in let b = both _ _ a.1 in let c = both _ _ b.1 in let d = both _ _ c.1 in (same i.rd 0 a.0, below i.rs1 32 b.0, below i.rs2 32 c.0, is_within 4096 i.imm d.0, same (unsigned 4096 i.imm % 2) 0 d.1)
does_fit U i e = let a = both _ _ e in let b = both _ _ a.1 in let c = both _ _ b.1 in let d = both _ _ c.1 in (below i.rd 32 a.0, same i.rs1 0 b.0, same i.rs2 0 c.0, is_within 2147483648 i.imm d.0, same (unsigned 2147483648 i.imm % 4096) 0 d.1)
does_fit J i e = let a = both _ _ e in let b = both _ _ a.1 in let c = both _ _ b.1 in let d = both _ _ c.1 in (below i.rd 32 a.0, same i.rs1 0 b.0, same i.rs2 0 c.0, is_within 1048576 i.imm d.0, same (unsigned 1048576 i.imm % 2) 0 d.1)
does_fit Shift6 i e = let a = both _ _ e in let b = both _ _ a.1 in let c = both _ _ b.1 in (below i.rd 32 a.0, below i.rs1 32 b.0, same i.rs2 0 c.0, is_below 64 i.imm c.1)
does_fit Shift5 i e = let a = both _ _ e in let b = both _ _ a.1 in let c = both _ _ b.1 in (below i.rd 32 a.0, below i.rs1 32 b.0, same i.rs2 0 c.0, is_below 32 i.imm c.1)
does_fit Fixed i e = let a = both _ _ e in let b = both _ _ a.1 in let c = both _ _ b.1 in (same i.rd 0 a.0, same i.rs1 0 b.0, same i.rs2 0 c.0, is_nothing i.imm c.1)

abbrev fits_word : Ins → Bool
fits_word i = fits_as (shape_of i.op).format i

abbrev fits_line : Line → Bool
fits_line (line.R op rd a b) = fits_word (ins op rd a b (pos 0))
fits_line (line.I op rd a z) = fits_word (ins op rd a 0 z)
fits_line (line.S op a b z) = fits_word (ins op 0 a b z)
fits_line (line.U op rd z) = fits_word (ins op rd 0 0 z)
fits_line (line.Plain op) = fits_word (ins op 0 0 0 (pos 0))
fits_line (line.Address rd d) = nat_lt rd 32
fits_line _ = true

line_fits : (l : Line) → fits_line l ≡ true → FitsLine l
line_fits (line.R op rd a b) e = does_fit (shape_of op).format (ins op rd a b (pos 0)) e
line_fits (line.I op rd a z) e = does_fit (shape_of op).format (ins op rd a 0 z) e
line_fits (line.S op a b z) e = does_fit (shape_of op).format (ins op 0 a b z) e
line_fits (line.U op rd z) e = does_fit (shape_of op).format (ins op rd 0 0 z) e
line_fits (line.Plain op) e = does_fit (shape_of op).format (ins op 0 0 0 (pos 0)) e
line_fits (line.Jump r) e = tt
line_fits (line.Link r) e = tt
line_fits (line.Address rd d) e = below rd 32 e

abbrev all_fit : List Line → Bool
all_fit [] = true
all_fit (l ∷ lines) = fits_line l && all_fit lines

fit_by : (lines : List Line) → all_fit lines ≡ true → All FitsLine lines
fit_by [] e = All-nil FitsLine
fit_by (l ∷ lines) e = let b = both _ _ e in All-cons FitsLine l lines (line_fits l b.0) (fit_by lines b.1)

pub routine_fits : (r : Routine) → All FitsLine (lines_of r)
unfolding lines_of shape_of
routine_fits routine.Full = fit_by (lines_of routine.Full) refl
routine_fits routine.Halt = fit_by (lines_of routine.Halt) refl
routine_fits routine.Uncaught = fit_by (lines_of routine.Uncaught) refl
routine_fits routine.Overflow = fit_by (lines_of routine.Overflow) refl
routine_fits routine.Div = fit_by (lines_of routine.Div) refl
routine_fits routine.Chr = fit_by (lines_of routine.Chr) refl
routine_fits routine.Subscript = fit_by (lines_of routine.Subscript) refl
routine_fits routine.Concat = fit_by (lines_of routine.Concat) refl
routine_fits routine.Size = fit_by (lines_of routine.Size) refl
routine_fits routine.Sub = fit_by (lines_of routine.Sub) refl
routine_fits routine.Substring = fit_by (lines_of routine.Substring) refl
routine_fits routine.StrOf = fit_by (lines_of routine.StrOf) refl
routine_fits routine.Implode = fit_by (lines_of routine.Implode) refl
routine_fits routine.Compare = fit_by (lines_of routine.Compare) refl
routine_fits routine.Print = fit_by (lines_of routine.Print) refl
routine_fits routine.InputLine = fit_by (lines_of routine.InputLine) refl
routine_fits routine.Equal = fit_by (lines_of routine.Equal) refl
routine_fits routine.Turn = fit_by (lines_of routine.Turn) refl
