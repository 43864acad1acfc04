-- Addresses and far jumps of two instructions, and registers that are saved and brought back, known or not.
use Rattle.std.proofs.Common.{◌≡◌, ◌≢◌, ℕ, suc, ◌+◌, ◌-◌, ◌*◌, ◌%◌, ◌^◌, ◌<◌, ◌≤◌, pos, List, length, Some, arith, refl, sym, ap, ◌∙◌, ⊎_elim, ◌⊎◌}
use Rattle.std.proofs.lemmas.Int.{ints}
use Rattle.std.specs.Prelude.{slice_get}
use Rattle.std.specs.Int.{w64, to_le_bytes}
use Rattle.std.proofs.lemmas.Bool.{cases_lt}
use Rattle.rv_isa.specs.declared.table.Op.TheVariants.{Addi, Auipc, Jalr, Ld, Sd}
use Rattle.rv_isa.specs.Word.{ins}
use Rattle.rv_machine.specs.Step.{wrapped}
use Rattle.rv_asm.specs.Pair as asm
use Rattle.simulation.proofs.Heaps.{with_same, with_other}
use Rattle.rv_acts.specs.Emitted.{Emitted, base, CanRead, CanWrite}
use Rattle.rv_acts.specs.Fine.{IsKnown, with_bytes, Fine}
use Rattle.rv_acts.specs.Act.{put, poke, go, unknowns}
use Rattle.rv_acts.specs.Trip.{WordIs}
use Rattle.rv_pieces.specs.Pair.{distance, upper, lower, Reaches}
use Rattle.rv_pieces.specs.Route.{Trips}
use Rattle.rv_pieces.proofs.Standing.{zero_known, known_of}
use Rattle.rv_pieces.proofs.Then.{alu_then, load_then, load_any_then, store_then, store_any_then, leaps_then}
use Rattle.rv_pieces.proofs.Words.{written}

-- a pair arrives
pub far_reaches : (p t : ℕ) → p < 2 ^ 63 → t < 2 ^ 63 → p < t + 2147479552 → t < p + 2147479552 → ((p + wrapped (upper (distance p t))) % 2 ^ 64 + wrapped (lower (distance p t))) % 2 ^ 64 ≡ t
far_reaches p t a b c d = omega (arith, ints)

-- it is the assembler's
pub upper_is : (m n : ℕ) → asm.upper m n ≡ upper (distance (base + 4 * m) (base + 4 * n))
upper_is m n = ap (λ k. upper k) (let e : 4 * n + (2 ^ 31 + 2 ^ 11) - 4 * m ≡ base + 4 * n + (2 ^ 31 + 2 ^ 11) - (base + 4 * m) = omega arith in e)

pub lower_is : (m n : ℕ) → asm.lower m n ≡ lower (distance (base + 4 * m) (base + 4 * n))
lower_is m n = ap (λ k. lower k) (let e : 4 * n + (2 ^ 31 + 2 ^ 11) - 4 * m ≡ base + 4 * n + (2 ^ 31 + 2 ^ 11) - (base + 4 * m) = omega arith in e)

-- the word at x is v, if v is known
abbrev pub IsSaved : (ℕ → ℕ) → ℕ → ℕ → Type 0
IsSaved m x v = IsKnown v → WordIs m x v

below : (x : ℕ) → x % 2 ^ 64 < 2 ^ 64
below x = omega arith

module _ {I : Emitted} {Q : ℕ → Type 0} where
  pub save_then : {Goal : Fine → Type 0} {most : ℕ} {a : Fine} (b r x k : ℕ) → slice_get I.code a.at ≡ Some (ins Sd 0 b r (pos k)) → Q a.at → IsKnown (a.regs b) → (a.regs b + wrapped (pos k)) % 2 ^ 64 ≡ x → x % 8 ≡ 0 → CanWrite I x 8 → (a.regs 8 ≤ x) ⊎ (x + 8 ≤ I.entries.arena) → ((new : List ℕ) → length new ≡ 8 → ((m : ℕ → ℕ) → IsSaved (with_bytes m x new) x (a.regs r)) → Trips I Q Goal most (poke x new a)) → Trips I Q Goal (suc most) a
  save_then {Goal} {most} {a} b r x k e q kb at al h apart go_on = ⊎_elim
      (λ (l : a.regs r < 2 ^ 64). store_then (ins Sd 0 b r (pos k)) w64 x (to_le_bytes w64 (a.regs r)) e q kb l refl at al h refl apart (go_on (to_le_bytes w64 (a.regs r)) refl (λ m kn. written m x (a.regs r) kn)))
      (λ (l : 2 ^ 64 ≤ a.regs r). store_any_then (ins Sd 0 b r (pos k)) w64 x e q kb refl at al h apart (go_on (unknowns 8) refl (λ m kn. absurd (omega arith))))
      (cases_lt (a.regs r) (2 ^ 64))

  pub restore_then : {Goal : Fine → Type 0} {most : ℕ} {a : Fine} (b r x k v : ℕ) → slice_get I.code a.at ≡ Some (ins Ld r b 0 (pos k)) → Q a.at → IsKnown (a.regs b) → (a.regs b + wrapped (pos k)) % 2 ^ 64 ≡ x → x % 8 ≡ 0 → CanRead I x 8 → r ≢ 0 → r ≢ 8 → IsSaved a.byte x v → ((u : ℕ) → (IsKnown v → u ≡ v) → Trips I Q Goal most (put r u a)) → Trips I Q Goal (suc most) a
  restore_then {Goal} {most} {a} b r x k v e q kb at al h z y saved go_on = ⊎_elim
      (λ (l : v < 2 ^ 64). load_then (ins Ld r b 0 (pos k)) w64 x v e q kb refl at al h (saved l).known (saved l).is z y (go_on v (λ kn. refl)))
      (λ (l : 2 ^ 64 ≤ v). load_any_then (ins Ld r b 0 (pos k)) w64 x e q kb refl at al h z y (go_on (2 ^ 64) (λ kn. absurd (omega arith))))
      (cases_lt v (2 ^ 64))

  pub la_then : {Goal : Fine → Type 0} {most : ℕ} {a : Fine} (rd p t : ℕ) → a.at ≡ p → rd ≢ 0 → rd ≢ 8 → a.regs 0 ≡ 0 → Reaches p t → (slice_get I.code a.at ≡ Some (ins Auipc rd 0 0 (upper (distance (base + 4 * p) t)))) → (slice_get I.code (suc a.at) ≡ Some (ins Addi rd rd 0 (lower (distance (base + 4 * p) t)))) → Q a.at → Q (suc a.at) → ((u : ℕ) → Trips I Q Goal most (put rd t (put rd u a))) → Trips I Q Goal (suc (suc most)) a
  la_then {Goal} {most} {a} rd p t e z y z0 r s1 s2 q1 q2 go_on =
      let u = (base + 4 * p + wrapped (upper (distance (base + 4 * p) t))) % 2 ^ 64 in
      let f = far_reaches (base + 4 * p) t r.from r.to r.back r.on in
      let k0 = zero_known (a.regs 0) z0 in
      let is : (put rd u a).regs rd ≡ u = with_same a.regs rd u in
      alu_then (ins Auipc rd 0 0 (upper (distance (base + 4 * p) t))) u s1 q1 k0 k0 (ap (λ n. Some ((base + 4 * n + wrapped (upper (distance (base + 4 * p) t))) % 2 ^ 64)) e) z y
      (alu_then (ins Addi rd rd 0 (lower (distance (base + 4 * p) t))) t s2 q2 (known_of _ u is (below (base + 4 * p + wrapped (upper (distance (base + 4 * p) t))))) (zero_known _ (with_other a.regs rd u 0 (λ q. z (sym q)) ∙ z0)) (ap (λ x. Some x) (ap (λ x. (x + wrapped (lower (distance (base + 4 * p) t))) % 2 ^ 64) is ∙ f)) z y
      (go_on u))

  -- a jump of two instructions, by x31
  pub jump_then : {Goal : Fine → Type 0} {most : ℕ} {a : Fine} (p target : ℕ) → a.at ≡ p → a.regs 0 ≡ 0 → Reaches p (base + 4 * target) → (slice_get I.code a.at ≡ Some (ins Auipc 31 0 0 (upper (distance (base + 4 * p) (base + 4 * target))))) → (slice_get I.code (suc a.at) ≡ Some (ins Jalr 0 31 0 (lower (distance (base + 4 * p) (base + 4 * target))))) → Q a.at → Q (suc a.at) → ((u : ℕ) → Trips I Q Goal most (go target (put 31 u a))) → Trips I Q Goal (suc (suc most)) a
  jump_then {Goal} {most} {a} p target e z0 r s1 s2 q1 q2 go_on =
      let t = base + 4 * target in
      let u = (base + 4 * p + wrapped (upper (distance (base + 4 * p) t))) % 2 ^ 64 in
      let f = far_reaches (base + 4 * p) t r.from r.to r.back r.on in
      let k0 = zero_known (a.regs 0) z0 in
      alu_then (ins Auipc 31 0 0 (upper (distance (base + 4 * p) t))) u s1 q1 k0 k0 (ap (λ n. Some ((base + 4 * n + wrapped (upper (distance (base + 4 * p) t))) % 2 ^ 64)) e) (omega arith) (omega arith)
      (leaps_then 31 target (lower (distance (base + 4 * p) t)) s2 q2 (below (base + 4 * p + wrapped (upper (distance (base + 4 * p) t)))) f
      (go_on u))
