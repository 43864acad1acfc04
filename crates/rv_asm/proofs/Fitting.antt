-- The instructions of a pair fit.
use Rattle.std.proofs.Common.{◌≡◌, ℕ, ◌<◌, ℤ, to_z, of_z, refl, sym, subst, ap, ◌∙◌}
use Rattle.std.specs.Int.{w32}
use Rattle.std.specs.Int.RustNames.{FitsSigned}
use Rattle.std.proofs.lemmas.Int.{to_z-of_z}
use Rattle.rv_isa.specs.declared.word.Ins.{Ins}
use Rattle.rv_isa.specs.declared.table.Op.{Op}
use Rattle.rv_isa.specs.declared.table.Op.TheVariants.{Auipc, Jalr, Addi}
use Rattle.rv_isa.specs.Table.{shape_of}
use Rattle.rv_isa.specs.Word.{ins, Fits}
use Rattle.rv_asm.specs.Item.{IsNear}
use Rattle.rv_asm.specs.Pair.{upper, lower}
use Rattle.rv_asm.proofs.PairLaws.{upper_within, upper_whole, lower_within}

pub auipc_fits : (rd m n : ℕ) → rd < 32 → IsNear n → Fits (ins Auipc rd 0 0 (upper m n))
unfolding shape_of
auipc_fits rd m n p q = (p, refl, refl, upper_within m n q, upper_whole m n q)

pub addi_fits : (rd rs m n : ℕ) → rd < 32 → rs < 32 → Fits (ins Addi rd rs 0 (lower m n))
unfolding shape_of
addi_fits rd rs m n p q = (p, q, refl, lower_within m n)

pub jalr_fits : (rd rs m n : ℕ) → rd < 32 → rs < 32 → Fits (ins Jalr rd rs 0 (lower m n))
unfolding shape_of
jalr_fits rd rs m n p q = (p, q, refl, lower_within m n)

-- an instruction whose immediate was passed to a call
pub passed_fits : (i : Ins) (op : Op) (rd rs : ℕ) (z part : ℤ) → i ≡ ins op rd rs 0 (to_z w32 (of_z w32 z)) → FitsSigned w32 z → z ≡ part → Fits (ins op rd rs 0 part) → Fits i
passed_fits i op rd rs z part e f q p = subst Fits (sym (e ∙ ap (ins op rd rs 0) (to_z-of_z w32 z f ∙ q))) p
