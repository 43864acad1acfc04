-- Items of the assembler as acts, and loops as trips.
use Rattle.std.proofs.Common.{◌≡◌, ◌≢◌, ℕ, zero, suc, ◌+◌, ◌*◌, ◌%◌, ◌^◌, ◌≤◌, List, Option, Some, arith, refl, sym, ap, ◌∙◌, subst}
use Rattle.std.proofs.Math.Nat.{suc-mul}
use Rattle.rv_isa.specs.declared.table.Op.TheVariants.{Auipc, Addi, Jalr}
use Rattle.rv_isa.specs.Word.{ins}
use Rattle.rv_machine.specs.Step.{wrapped}
use Rattle.rv_asm.specs.declared.item.Item.TheVariants.{Jump, Address}
use Rattle.rv_asm.specs.Item.{IsNear}
use Rattle.rv_asm.specs.Pair.{upper, lower}
use Rattle.rv_asm.specs.Layout.{code_at, place_of}
use Rattle.rv_asm.proofs.PairLaws.{arrives_there}
use Rattle.simulation.proofs.Heaps.{with_same, with_other}
use Rattle.rv_acts.specs.Emitted.{Emitted, base, IsQuiet}
use Rattle.rv_acts.specs.Fine.{IsKnown, Fine}
use Rattle.rv_acts.specs.Act.{put, go, alu, leaps}
use Rattle.rv_acts.specs.Trip.{Trip, stop, move, Steady}
use Rattle.rv_acts.proofs.Trips.{trip_on}
use Rattle.rv_pieces.specs.Stand.{Stands}
use Rattle.rv_pieces.specs.Laws.{Jumped, Addressed}
use Rattle.rv_pieces.proofs.Standing.{zero_known}
use Rattle.rv_pieces.proofs.Then.{value_is}

below : (x : ℕ) → IsKnown (x % 2 ^ 64)
below x = omega arith

put_steady : (I : Emitted) (rd v : ℕ) (a : Fine) → rd ≢ 0 → rd ≢ 8 → Steady I a (put rd v a)
put_steady I rd v a z y = record { x0 = with_other a.regs rd v 0 (λ p. z (sym p)); x8 = with_other a.regs rd v 8 (λ p. y (sym p)); low = λ x l. refl }

pub jump_arrives : (I : Emitted) (places : List (Option ℕ)) (label : ℕ) (a : Fine) → IsNear a.at → IsNear (place_of places label) → a.regs 0 ≡ 0 → IsQuiet I a.at → IsQuiet I (suc a.at) → Stands I.code a.at (code_at places a.at (Jump label)) → Jumped I (place_of places label) a
jump_arrives I places label a near far z q0 q1 st =
    let there = place_of places label in
    let u = (base + 4 * a.at + wrapped (upper a.at there)) % 2 ^ 64 in
    let k0 = zero_known (a.regs 0) z in
    let f : (u + wrapped (lower a.at there)) % 2 ^ 64 ≡ base + 4 * there = arrives_there base a.at there (omega arith) near far in
    let b = put 31 u a in
    let is : b.regs 31 ≡ u = with_same a.regs 31 u in
    record {
      lost = u;
      trip = move 1 (ins Auipc 31 0 0 (upper a.at there)) a b (go there b) st.0 q0 (alu (ins Auipc 31 0 0 (upper a.at there)) a u k0 k0 (value_is Auipc _ _ _ _ u refl) (omega arith)) (put_steady I 31 u a (omega arith) (omega arith))
          (move 0 (ins Jalr 0 31 0 (lower a.at there)) b (go there b) (go there b) st.1.0 q1 (leaps 31 there (lower a.at there) b (below (base + 4 * a.at + wrapped (upper a.at there))) f) (record { x0 = refl; x8 = refl; low = λ x l. refl }) (stop (go there b)));
    }

pub address_arrives : (I : Emitted) (places : List (Option ℕ)) (rd label : ℕ) (a : Fine) → rd ≢ 0 → rd ≢ 8 → IsNear a.at → IsNear (place_of places label) → a.regs 0 ≡ 0 → IsQuiet I a.at → IsQuiet I (suc a.at) → Stands I.code a.at (code_at places a.at (Address rd label)) → Addressed I rd (base + 4 * place_of places label) a
address_arrives I places rd label a d8 d near far z q0 q1 st =
    let there = place_of places label in
    let u = (base + 4 * a.at + wrapped (upper a.at there)) % 2 ^ 64 in
    let k0 = zero_known (a.regs 0) z in
    let f : (u + wrapped (lower a.at there)) % 2 ^ 64 ≡ base + 4 * there = arrives_there base a.at there (omega arith) near far in
    let b = put rd u a in
    let is : b.regs rd ≡ u = with_same a.regs rd u in
    let zb : b.regs 0 ≡ 0 = with_other a.regs rd u 0 (λ p. d8 (sym p)) ∙ z in
    record {
      lost = u;
      trip = move 1 (ins Auipc rd 0 0 (upper a.at there)) a b (put rd (base + 4 * there) b) st.0 q0 (alu (ins Auipc rd 0 0 (upper a.at there)) a u k0 k0 (value_is Auipc _ _ _ _ u refl) d8) (put_steady I rd u a d8 d)
          (move 0 (ins Addi rd rd 0 (lower a.at there)) b (put rd (base + 4 * there) b) (put rd (base + 4 * there) b) st.1.0 q1 (alu (ins Addi rd rd 0 (lower a.at there)) b (base + 4 * there) (subst IsKnown (sym is) (below (base + 4 * a.at + wrapped (upper a.at there)))) (zero_known (b.regs 0) zb) (value_is Addi _ _ _ _ (base + 4 * there) (ap (λ x. Some ((x + wrapped (lower a.at there)) % 2 ^ 64)) is ∙ ap (λ x. Some x) f)) d8) (put_steady I rd (base + 4 * there) b d8 d) (stop (put rd (base + 4 * there) b)));
    }

-- rounds of at most c acts each
pub loop_ends : (I : Emitted) (c : ℕ) (a : ℕ → Fine) → ((k : ℕ) → (n : ℕ) × (n ≤ c) × Trip I (IsQuiet I) n (a (suc k)) (a k)) → (k : ℕ) → (n : ℕ) × (n ≤ k * c) × Trip I (IsQuiet I) n (a k) (a 0)
loop_ends I c a round zero = (0, omega arith, stop (a 0))
loop_ends I c a round (suc k) =
    let r = round k in
    let s = loop_ends I c a round k in
    let z = suc-mul k c in
    let l = r.1 in
    let m = s.1 in
    (r.0 + s.0, omega arith, trip_on I (IsQuiet I) r.0 s.0 (a (suc k)) (a k) (a 0) r.2 s.2)
