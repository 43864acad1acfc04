-- the instructions of the straight code have words
use Rattle.std.proofs.Common.{◌≡◌, ℕ, ℤ, pos, negsuc, ◌+◌, ◌-◌, ◌*◌, ◌/◌, ◌%◌, ◌^◌, ◌<◌, true, false, if◌then◌else◌, arith, refl}
use Rattle.std.specs.Prelude.{nat_lt}
use Rattle.std.proofs.lemmas.Bool.Decides.{nat_tests}
use Rattle.rv_isa.specs.declared.table.Op.TheVariants.{Lui, Addi, Add, Sub, Bne, Ecall}
use Rattle.rv_isa.specs.Table.{shape_of}
use Rattle.rv_isa.specs.Word.{ins, Fits, IsWithin}
use Rattle.print_code.specs.Code.{high_part, low_part}

pub fits_addi : (rd rs1 : ℕ) (z : ℤ) → rd < 32 → rs1 < 32 → IsWithin 2048 z → Fits (ins Addi rd rs1 0 z)
unfolding shape_of
fits_addi rd rs1 z p q r = (p, q, refl, r)

pub fits_lui : (rd n : ℕ) → rd < 32 → n < 2147483648 → n % 4096 ≡ 0 → Fits (ins Lui rd 0 0 (pos n))
unfolding shape_of
fits_lui rd n p q r = (p, refl, refl, q, r)

pub fits_ecall : Fits (ins Ecall 0 0 0 (pos 0))
unfolding shape_of
fits_ecall = (refl, refl, refl, refl)

pub fits_add : Fits (ins Add 11 11 10 (pos 0))
unfolding shape_of
fits_add = (omega arith, omega arith, omega arith, refl)

pub fits_sub : Fits (ins Sub 12 12 10 (pos 0))
unfolding shape_of
fits_sub = (omega arith, omega arith, omega arith, refl)

pub fits_bne : Fits (ins Bne 0 12 0 (negsuc 19))
unfolding shape_of
fits_bne = (refl, omega arith, omega arith, omega arith, refl)

pub low-within : (n : ℕ) → IsWithin 2048 (low_part n)
low-within n = elim (nat_lt (n % 4096) 2048) as (λ b. nat_lt (n % 4096) 2048 ≡ b → IsWithin 2048 (if b then pos (n % 4096) else negsuc (4095 - n % 4096))) [
  | true ↦ λ h. grind (arith, nat_tests)
  | false ↦ λ h. grind (arith, nat_tests)
] refl

pub fits_low : (n : ℕ) → Fits (ins Addi 12 12 0 (low_part n))
fits_low n = fits_addi 12 12 (low_part n) (omega arith) (omega arith) (low-within n)

pub fits_high : (rd n : ℕ) → rd < 32 → n < 2 ^ 30 → Fits (ins Lui rd 0 0 (high_part n))
fits_high rd n p q = fits_lui rd ((n + 2048) / 4096 * 4096) p (omega arith) (omega arith)
