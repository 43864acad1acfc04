-- The routines that end a run.
use Rattle.std.proofs.Common.{◌≡◌, ℕ, suc, ◌+◌, ◌-◌, ◌*◌, ◌/◌, ◌%◌, ◌^◌, ◌≤◌, pos, length, Some, true, ◌==◌, arith, refl, sym, ap, ◌∙◌}
use Rattle.std.specs.Prelude.{slice_get, nat_lt}
use Rattle.std.proofs.lemmas.Bool.Decides.{nat_tests}
use Rattle.rv_isa.specs.declared.table.Op.TheVariants.{Addi, Srli, Sub, Ecall}
use Rattle.rv_isa.specs.Word.{ins}
use Rattle.rv_acts.specs.Emitted.{Emitted, base, IsLaid}
use Rattle.rv_acts.specs.Fine.{IsKnown, Fine}
use Rattle.rv_pieces.specs.Stand.{Stands}
use Rattle.rv_pieces.specs.Pair.{Reaches}
use Rattle.rv_pieces.specs.Route.{Trips}
use Rattle.rv_pieces.proofs.Standing.{zero_known, stands_at, stands_within}
use Rattle.rv_pieces.proofs.Then.{finish, alu_then}
use Rattle.rv_pieces.proofs.Saving.{la_then}
use Rattle.simulation.specs.Runs.{Arena, Normal, Stuck}
use Rattle.rv_machine.specs.State.{reg}
use Rattle.std.specs.Prelude.{◌&&◌, if◌then◌else◌}
use Rattle.rv_run.specs.Seen.{used}
use Rattle.rv_run.specs.Run.{Spot, full_end}
use Rattle.rv_acts.specs.Emitted.{IsQuiet}
use Rattle.rv_acts.specs.Fine.{Shown}
use Rattle.rv_acts.proofs.Trips.{trip_done}
use Rattle.rv_acts.proofs.Doing.{exit_done}
use Rattle.routine_laws.specs.Places.{IsNear, IsClear}
use Rattle.routine_laws.specs.Ends.{full_code, halt_code, Filled, EndsIn}

-- at the call, with its number, and the registers of a full arena
record Calls (I : Emitted) (code n : ℕ) (a b : Fine) : Type 0 where
  ecall : slice_get I.code b.at ≡ Some (ins Ecall 0 0 0 (pos 0))
  x17 : b.regs 17 ≡ 93
  x10 : b.regs 10 ≡ code
  x11 : b.regs 11 ≡ n
  x8 : b.regs 8 ≡ a.regs 8
  x12 : b.regs 12 ≡ a.regs 12
  out : b.out ≡ a.out
  err : b.err ≡ a.err

module _ (I : Emitted) (laid : IsLaid I) (near : IsNear I) (p : ℕ) (code : Stands I.code p (full_code I p)) (clear : IsClear I p 7) (n next : ℕ) (a : Fine) (f : Filled I n next p a) where
  inside : p + 7 ≤ length I.code
  inside = stands_within I.code p (full_code I p) (omega arith) code

  pc_low : base + 4 * (p + 7) ≤ I.entries.arena - 8192
  pc_low = let a = laid.text in let b = laid.above in let c = inside in omega arith

  reach : Reaches p I.entries.arena
  reach = let a = pc_low in let b = near.near in let c = near.above in record { from = omega arith; to = omega arith; back = omega arith; on = omega arith }

  to_call : Trips I (IsQuiet I) (Calls I 3 n a) 6 a
  to_call =
      let at = f.at in
      let c = stands_at I.code p a.at (full_code I p) (sym at) code in
      let hi = laid.high in
      let nr = near.near in
      let w = f.within in
      let x8 = f.x8 in
      let z0 = f.x0 in
      let k0 = zero_known (a.regs 0) z0 in
      let k8 : IsKnown (a.regs 8) = omega arith in
      let ka : IsKnown I.entries.arena = omega arith in
      let v1 : (a.regs 8 + (2 ^ 64 - I.entries.arena)) % 2 ^ 64 ≡ 8 * n = omega arith in
      let k1 : IsKnown (8 * n) = omega arith in
      let v2 : 8 * n / 8 ≡ n = omega arith in
      let v3 : (a.regs 0 + 3) % 2 ^ 64 ≡ 3 = omega arith in
      let v4 : (a.regs 0 + 93) % 2 ^ 64 ≡ 93 = omega arith in
      la_then 5 p I.entries.arena at (omega arith) (omega arith) z0 reach c.0 c.1.0 (clear a.at (omega arith) (omega arith)) (clear (suc a.at) (omega arith) (omega arith)) (λ u.
      alu_then (ins Sub 11 8 5 (pos 0)) (8 * n) c.1.1.0 (clear (suc (suc a.at)) (omega arith) (omega arith)) k8 ka (ap (λ x. Some x) v1) (omega arith) (omega arith)
      (alu_then (ins Srli 11 11 0 (pos 3)) n c.1.1.1.0 (clear (suc (suc (suc a.at))) (omega arith) (omega arith)) k1 k0 (ap (λ x. Some x) v2) (omega arith) (omega arith)
      (alu_then (ins Addi 10 0 0 (pos 3)) 3 c.1.1.1.1.0 (clear (suc (suc (suc (suc a.at)))) (omega arith) (omega arith)) k0 k0 (ap (λ x. Some x) v3) (omega arith) (omega arith)
      (alu_then (ins Addi 17 0 0 (pos 93)) 93 c.1.1.1.1.1.0 (clear (suc (suc (suc (suc (suc a.at))))) (omega arith) (omega arith)) k0 k0 (ap (λ x. Some x) v4) (omega arith) (omega arith)
      (finish (record { ecall = c.1.1.1.1.1.1.0; x17 = refl; x10 = refl; x11 = refl; x8 = refl; x12 = refl; out = refl; err = refl }))))))

  is_full : (b : Fine) (t : Spot) → Shown I b t → Calls I 3 n a b → full_end I.entries t.world.state ≡ Arena
  is_full b t m g =
      let hi = laid.high in
      let w = f.within in
      let x8 = f.x8 in
      let s = f.small in
      let x12 = f.x12 in
      let b8 = g.x8 in
      let b11 = g.x11 in
      let b12 = g.x12 in
      let o = f.over in
      let r8 : reg t.world.state 8 ≡ I.entries.arena + 8 * n = m.regs 8 (omega arith) (omega arith) ∙ g.x8 ∙ f.x8 in
      let r11 : reg t.world.state 11 ≡ n = m.regs 11 (omega arith) (omega arith) ∙ g.x11 in
      let r12 : reg t.world.state 12 ≡ next = m.regs 12 (omega arith) (omega arith) ∙ g.x12 ∙ f.x12 in
      let u : used I.entries t.world.state ≡ n = omega arith in
      decided (reg t.world.state 11) (used I.entries t.world.state) (reg t.world.state 12) r11 u r12
    where
      decided : (x y z : ℕ) → x ≡ n → y ≡ n → z ≡ next → (if (x == y) && nat_lt I.entries.arena_words (y + z) then Arena else Stuck) ≡ Arena
      decided x y z e d c =
          let o = f.over in
          let t1 : (x == y) ≡ true = grind (arith, nat_tests) in
          let t2 : nat_lt I.entries.arena_words (y + z) ≡ true = grind (arith, nat_tests) in
          rw (t1, t2) refl

  pub full_ends : (s : Spot) → Shown I a s → EndsIn I 6 Arena s
  full_ends s m =
      let r = to_call in
      let d = trip_done I laid r.count a r.to r.trip s m in
      let g = r.goal in
      let x = exit_done I laid r.to d.to 3 d.shown g.ecall g.x17 g.x10 (omega arith) in
      record {
        count = r.count;
        few = r.few;
        to = d.to;
        there = d.there;
        quiet = d.quiet;
        stop = x.step;
        is = x.end ∙ is_full r.to d.to d.shown g;
        out = d.shown.out ∙ g.out ∙ sym m.out;
        err = d.shown.err ∙ g.err ∙ sym m.err;
      }

pub halt_ends : (I : Emitted) (laid : IsLaid I) (p : ℕ) → Stands I.code p halt_code → IsClear I p 3 → (a : Fine) → a.at ≡ p → a.regs 0 ≡ 0 → (s : Spot) → Shown I a s → EndsIn I 2 Normal s
halt_ends I laid p code clear a at z0 s m =
    let c = stands_at I.code p a.at halt_code (sym at) code in
    let k0 = zero_known (a.regs 0) z0 in
    let v3 : (a.regs 0 + 0) % 2 ^ 64 ≡ 0 = omega arith in
    let v4 : (a.regs 0 + 93) % 2 ^ 64 ≡ 93 = omega arith in
    let r : Trips I (IsQuiet I) (Calls I 0 (a.regs 11) a) 2 a =
    alu_then (ins Addi 10 0 0 (pos 0)) 0 c.0 (clear a.at (omega arith) (omega arith)) k0 k0 (ap (λ x. Some x) v3) (omega arith) (omega arith)
    (alu_then (ins Addi 17 0 0 (pos 93)) 93 c.1.0 (clear (suc a.at) (omega arith) (omega arith)) k0 k0 (ap (λ x. Some x) v4) (omega arith) (omega arith)
    (finish (record { ecall = c.1.1.0; x17 = refl; x10 = refl; x11 = refl; x8 = refl; x12 = refl; out = refl; err = refl }))) in
    let d = trip_done I laid r.count a r.to r.trip s m in
    let g = r.goal in
    let x = exit_done I laid r.to d.to 0 d.shown g.ecall g.x17 g.x10 (omega arith) in
    record { count = r.count; few = r.few; to = d.to; there = d.there; quiet = d.quiet; stop = x.step; is = x.end; out = d.shown.out ∙ g.out ∙ sym m.out; err = d.shown.err ∙ g.err ∙ sym m.err }
