-- what the instructions of the straight code do
use Rattle.std.proofs.Common.{◌≡◌, ℕ, ℤ, pos, negsuc, ◌+◌, ◌-◌, ◌*◌, ◌/◌, ◌%◌, ◌^◌, ◌<◌, ◌≤◌, Some, true, false, not, ◌==◌, if◌then◌else◌, arith, refl, ap}
use Rattle.std.specs.Prelude.{nat_lt}
use Rattle.std.proofs.lemmas.Bool.Decides.{nat_tests}
use Rattle.rv_isa.specs.declared.table.Op.TheVariants.{Lui, Addi, Add, Sub, Bne, Ecall}
use Rattle.rv_isa.specs.Word.{ins}
use Rattle.rv_machine.specs.declared.hart.Next.TheVariants.{Going, Exit, Write}
use Rattle.rv_machine.specs.State.{State, reg, located}
use Rattle.rv_machine.specs.Step.{executed, value_by, test_by, rest_by, done_by, called, writes, goes, wrapped}
use Rattle.print_code.specs.Code.{low_part}

pub ex_li : (s : State) (rd : ℕ) (z : ℤ) (k : ℕ) → wrapped z ≡ k → k < 2 ^ 64 → executed (ins Addi rd 0 0 z) s ≡ writes rd k s
unfolding executed done_by value_by test_by rest_by
ex_li s rd z k h p = let e : (0 + wrapped z) % 2 ^ 64 ≡ k = omega arith in ap (λ (v : ℕ). writes rd v s) e

pub ex_lui : (s : State) (rd n : ℕ) → n < 2 ^ 31 → executed (ins Lui rd 0 0 (pos n)) s ≡ writes rd n s
unfolding executed done_by value_by test_by rest_by
ex_lui s rd n p = let e : wrapped (pos n) ≡ n = grind (arith, nat_tests) in ap (λ (v : ℕ). writes rd v s) e

-- a number by its two parts
pub parts_join : (n : ℕ) → n < 2 ^ 30 → ((n + 2048) / 4096 * 4096 + wrapped (low_part n)) % 2 ^ 64 ≡ n
parts_join n p = elim (nat_lt (n % 4096) 2048) as (λ b. nat_lt (n % 4096) 2048 ≡ b → ((n + 2048) / 4096 * 4096 + wrapped (if b then pos (n % 4096) else negsuc (4095 - n % 4096))) % 2 ^ 64 ≡ n) [
  | true ↦ λ h. grind (arith, nat_tests)
  | false ↦ λ h. grind (arith, nat_tests)
] refl

pub ex_low : (s : State) (n : ℕ) → n < 2 ^ 30 → reg s 12 ≡ (n + 2048) / 4096 * 4096 → executed (ins Addi 12 12 0 (low_part n)) s ≡ writes 12 n s
unfolding executed done_by value_by test_by rest_by
ex_low s n p h = let e : (reg s 12 + wrapped (low_part n)) % 2 ^ 64 ≡ n = rw h (parts_join n p) in ap (λ (v : ℕ). writes 12 v s) e

pub ex_add : (s : State) (a b : ℕ) → reg s 11 ≡ a → reg s 10 ≡ b → a + b < 2 ^ 64 → executed (ins Add 11 11 10 (pos 0)) s ≡ writes 11 (a + b) s
unfolding executed done_by value_by test_by rest_by
ex_add s a b x y p = let e : (reg s 11 + reg s 10) % 2 ^ 64 ≡ a + b = omega arith in ap (λ (v : ℕ). writes 11 v s) e

pub ex_sub : (s : State) (a b : ℕ) → reg s 12 ≡ a → reg s 10 ≡ b → b ≤ a → a < 2 ^ 64 → executed (ins Sub 12 12 10 (pos 0)) s ≡ writes 12 (a - b) s
unfolding executed done_by value_by test_by rest_by
ex_sub s a b x y p q = let e : (reg s 12 + (2 ^ 64 - reg s 10)) % 2 ^ 64 ≡ a - b = omega arith in ap (λ (v : ℕ). writes 12 v s) e

pub ex_bne_off : (s : State) → reg s 12 ≡ 0 → executed (ins Bne 0 12 0 (negsuc 19)) s ≡ goes s
unfolding executed done_by value_by test_by rest_by
ex_bne_off s x = rw x refl

pub ex_bne_on : (s : State) (pc r : ℕ) → reg s 12 ≡ r → 0 < r → s.pc ≡ pc + 20 → pc + 20 < 2 ^ 64 → pc % 4 ≡ 0 → executed (ins Bne 0 12 0 (negsuc 19)) s ≡ (Going, record s { pc = pc })
unfolding executed done_by value_by test_by rest_by
ex_bne_on s pc r x p y q a =
    let test : not (reg s 12 == 0) ≡ true = grind (arith, nat_tests) in
    let target : (s.pc + (2 ^ 64 - 20)) % 2 ^ 64 ≡ pc = omega arith in
    rw (test, target, a) refl

pub ex_write : (s : State) (r k : ℕ) → reg s 17 ≡ 64 → reg s 10 ≡ 1 → reg s 12 ≡ r → 0 < r → located s 4 (reg s 11) r ≡ Some k → executed (ins Ecall 0 0 0 (pos 0)) s ≡ (Write 1 k r, s)
unfolding executed done_by value_by test_by rest_by called
ex_write s r k x17 x10 x12 p found =
    let test : (r == 0) ≡ false = grind (arith, nat_tests) in
    rw (x17, x10, x12, test, found) refl

pub ex_exit : (s : State) → reg s 17 ≡ 93 → reg s 10 ≡ 0 → executed (ins Ecall 0 0 0 (pos 0)) s ≡ (Exit 0, s)
unfolding executed done_by value_by test_by rest_by called
ex_exit s x17 x10 = rw (x17, x10) refl
