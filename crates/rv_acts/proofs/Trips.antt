-- A trip is done by the machine, by two of which the same is known in lockstep, and as a walk of a simulation.
use Rattle.std.proofs.Common.{◌≡◌, ℕ, zero, suc, ◌+◌, ◌<◌, ◌==◌, if◌then◌else◌, List, ◌++◌, Some, None, arith, refl, sym, ap, ◌∙◌, subst, subst₂, inl, inr}
use Rattle.rv_isa.specs.declared.word.Ins.{Ins}
use Rattle.rv_machine.specs.Run.{moved}
use Rattle.smlc_base.specs.declared.point.Point.{Point}
use Rattle.simulation.specs.Blocks.{IsPrefix, Grows, Block}
use Rattle.simulation.specs.Runs.{visible}
use Rattle.simulation.specs.Machines.{state_at, SteadyAt}
use Rattle.simulation.proofs.Blocks.{prefix_refl, grows_refl}
use Rattle.simulation.proofs.Machines.{Walks, stay, walk, Calm, state_later}
use Rattle.rv_run.specs.Seen.{listed_from}
use Rattle.rv_run.specs.Run.{Spot, risc, row_at, point_of}
use Rattle.rv_acts.specs.Emitted.{Emitted, IsLaid, IsQuiet}
use Rattle.rv_acts.specs.Fine.{Fine, Shown}
use Rattle.rv_acts.specs.Act.{Act, alu, load, store, load_any, store_any, falls, takes, turns, leaps, calls, tells, reads}
use Rattle.rv_acts.specs.Trip.{IsLow, Steady, Trip, stop, move}
use Rattle.rv_acts.specs.Laws.{TripDone, here, both, BothShown, Watches, TripWalked}
use Rattle.rv_acts.proofs.Doing.{act_done}

pub steady_refl : (I : Emitted) (a : Fine) → Steady I a a
steady_refl I a = record { x0 = refl; x8 = refl; low = λ x h. refl }

pub steady_then : (I : Emitted) (a b c : Fine) → Steady I a b → Steady I b c → Steady I a c
steady_then I a b c s t = record { x0 = t.x0 ∙ s.x0; x8 = t.x8 ∙ s.x8; low = λ x h. t.low x (subst (λ n. IsLow I n x) (sym s.x8) h) ∙ s.low x h }

pub trip_on : (I : Emitted) (Q : ℕ → Type 0) (m n : ℕ) (a b c : Fine) → Trip I Q m a b → Trip I Q n b c → Trip I Q (m + n) a c
trip_on I Q m n a b c (stop a') r = subst (λ k. Trip I Q k a c) (let e : n ≡ 0 + n = omega arith in e) r
trip_on I Q m n a b c (move k i a' d b' e q x s t) r = subst (λ j. Trip I Q j a c) (let f : suc (k + n) ≡ suc k + n = omega arith in f) (move (k + n) i a d c e q x s (trip_on I Q k n d b c t r))

pub trip_steady : (I : Emitted) (Q : ℕ → Type 0) (n : ℕ) (a c : Fine) → Trip I Q n a c → Steady I a c
trip_steady I Q n a c (stop a') = steady_refl I a
trip_steady I Q n a c (move k i a' b c' e q x s t) = steady_then I a b c s (trip_steady I Q k b c t)

-- ---- a trip is done by the machine, in so many steps, quietly

pub trip_done : (I : Emitted) (laid : IsLaid I) (n : ℕ) (a c : Fine) → Trip I (IsQuiet I) n a c → (s : Spot) → Shown I a s → TripDone I n c s
trip_done I laid n a c (stop a') s m = record { to = s; there = refl; shown = m; quiet = λ k l. absurd (omega arith) }
trip_done I laid n a c (move k i a' b c' e q x st t) s m =
    let d = act_done I laid i a b x s m e in
    let r = trip_done I laid k b c t d.to d.shown in
    record {
      to = r.to;
      there = sym (state_later (risc I.entries) s d.to d.step k) ∙ r.there;
      shown = r.shown;
      quiet = λ j l. quiet_at d.to d.step r j l;
    }
  where
    quiet_at : (u : Spot) → (risc I.entries).step s ≡ Some u → TripDone I k c u → (j : ℕ) → j < suc k → (risc I.entries).pass (state_at (risc I.entries) s j) ≡ None
    quiet_at u f r zero l = ap (λ n. point_of (row_at I.entries.rows n)) m.pc ∙ ap point_of q
    quiet_at u f r (suc j) l = ap (risc I.entries).pass (sym (state_later (risc I.entries) s u f j)) ∙ r.quiet j (omega arith)

-- ---- two states that show the same do it in lockstep

pub trip_lock : (I : Emitted) (laid : IsLaid I) (Q : ℕ → Type 0) (n : ℕ) (a c : Fine) → Trip I Q n a c → (s t : Spot) → Shown I a s → Shown I a t → BothShown I c s t
trip_lock I laid Q n a c (stop a') s t m w = record { to_s = s; to_t = t; lock = here s t; one = m; other = w }
trip_lock I laid Q n a c (move k i a' b c' e q x st r) s t m w =
    let d = act_done I laid i a b x s m e in
    let f = act_done I laid i a b x t w e in
    let l = trip_lock I laid Q k b c r d.to f.to d.shown f.shown in
    record { to_s = l.to_s; to_t = l.to_t; lock = both s t d.to f.to l.to_s l.to_t d.step f.step (w.out ∙ sym m.out) (w.err ∙ sym m.err) l.lock; one = l.one; other = l.other }

pub act_writes : (I : Emitted) (i : Ins) (a b : Fine) → Act I i a b → IsPrefix a.out b.out
act_writes I i a b (alu i' a' v k1 k2 h z) = prefix_refl a.out
act_writes I i a b (load i' a' w x k1 q at al h k z) = prefix_refl a.out
act_writes I i a b (store i' a' w x k1 k2 q at al h) = prefix_refl a.out
act_writes I i a b (load_any i' a' w x k1 q at al h z) = prefix_refl a.out
act_writes I i a b (store_any i' a' w x k1 q at al h) = prefix_refl a.out
act_writes I i a b (falls i' a' k1 k2 h) = prefix_refl a.out
act_writes I i a b (takes i' a' target k1 k2 h z) = prefix_refl a.out
act_writes I i a b (turns z a' target h) = prefix_refl a.out
act_writes I i a b (leaps rs target z a' k1 h) = prefix_refl a.out
act_writes I i a b (calls rd rs target z a' d k1 h) = prefix_refl a.out
act_writes I i a b (tells to a' x n (inl e) q r k) = subst (λ t. IsPrefix a.out (if t == 1 then a.out ++ listed_from a.byte x (moved a.cuts n) else a.out)) (sym e) (listed_from a.byte x (moved a.cuts n), refl)
act_writes I i a b (tells to a' x n (inr e) q r k) = subst (λ t. IsPrefix a.out (if t == 1 then a.out ++ listed_from a.byte x (moved a.cuts n) else a.out)) (sym e) (prefix_refl a.out)
act_writes I i a b (reads a' x n bytes q r k) = prefix_refl a.out

-- ---- and it is a walk of a simulation, in which no block changes

pub record TripWalk (I : Emitted) (labels : List Point) (n : ℕ) (c : Fine) (s : Spot) : Type 0 where
  pub to : Spot
  pub walk : Walks (risc I.entries) (Calm (risc I.entries) labels) n s to
  pub shown : Shown I c to

-- a step after which other blocks are seen
pub steady_at : (I : Emitted) (old new : List Block) → Grows old new → (s t : Spot) → (risc I.entries).step s ≡ Some t → IsPrefix s.world.out t.world.out → (risc I.entries).memory s ≡ old → (risc I.entries).memory t ≡ new → SteadyAt (risc I.entries) s
steady_at I old new g s t e p m n u f =
    let q : Some t ≡ Some u = sym e ∙ f in
    let r : t ≡ u = cc in
    subst (λ u. IsPrefix s.world.out u.world.out × Grows ((risc I.entries).memory s) ((risc I.entries).memory u)) r (p, subst₂ Grows (sym m) (sym n) g)

pub unseen_at : (I : Emitted) (labels : List Point) (a : Fine) (s : Spot) → Shown I a s → IsQuiet I a.at → visible labels ((risc I.entries).pass s) ≡ None
unseen_at I labels a s m q = ap (λ n. visible labels (point_of (row_at I.entries.rows n))) m.pc ∙ ap (λ o. visible labels (point_of o)) q

module _ (I : Emitted) (laid : IsLaid I) (labels : List Point) (seen : List Block) (H : Fine → Type 0) (w : Watches I seen H) where
  pub trip_walk : (n : ℕ) (a c : Fine) → Trip I (IsQuiet I) n a c → H a → (s : Spot) → Shown I a s → TripWalk I labels n c s
  trip_walk n a c (stop a') h s m = record { to = s; walk = stay s; shown = m }
  trip_walk n a c (move k i a' b c' e q x st r) h s m =
      let d = act_done I laid i a b x s m e in
      let hb = w.keep a b st h in
      let go_on = trip_walk k b c r hb d.to d.shown in
      let p : IsPrefix s.world.out d.to.world.out = subst₂ IsPrefix (sym m.out) (sym d.shown.out) (act_writes I i a b x) in
      record {
        to = go_on.to;
        walk = walk k s d.to go_on.to d.step (unseen_at I labels a s m q, steady_at I seen seen (grows_refl seen) s d.to d.step p (w.sees a s m h) (w.sees b d.to d.shown hb)) go_on.walk;
        shown = go_on.shown;
      }

  pub trip_walked : (n : ℕ) (a c : Fine) → Trip I (IsQuiet I) n a c → H a → (s : Spot) → Shown I a s → TripWalked I labels n c s
  trip_walked n a c t h s m = record { done = trip_done I laid n a c t s m; calm = λ k l. calm_at n a c t h s m k l }
    where
      calm_at : (n : ℕ) (a c : Fine) → Trip I (IsQuiet I) n a c → H a → (s : Spot) → Shown I a s → (k : ℕ) → k < n → (visible labels ((risc I.entries).pass (state_at (risc I.entries) s k)) ≡ None) × SteadyAt (risc I.entries) (state_at (risc I.entries) s k)
      calm_at n a c (stop a') h s m k l = absurd (omega arith)
      calm_at n a c (move j i a' b c' e q x st r) h s m zero l =
          let d = act_done I laid i a b x s m e in
          let p : IsPrefix s.world.out d.to.world.out = subst₂ IsPrefix (sym m.out) (sym d.shown.out) (act_writes I i a b x) in
          (unseen_at I labels a s m q, steady_at I seen seen (grows_refl seen) s d.to d.step p (w.sees a s m h) (w.sees b d.to d.shown (w.keep a b st h)))
      calm_at n a c (move j i a' b c' e q x st r) h s m (suc k) l =
          let d = act_done I laid i a b x s m e in
          subst (λ u. (visible labels ((risc I.entries).pass u) ≡ None) × SteadyAt (risc I.entries) u) (state_later (risc I.entries) s d.to d.step k) (calm_at j b c r (w.keep a b st h) d.to d.shown k (omega arith))
