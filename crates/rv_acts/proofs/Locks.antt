-- Two machines that go in lockstep.
use Rattle.std.proofs.Common.{◌≡◌, ℕ, zero, suc, ◌≤◌, Some, None, refl, sym, ap, ◌∙◌, subst₂, arith, le_refl}
use Rattle.elf_static.specs.declared.image.Entries.{Entries}
use Rattle.simulation.specs.Machines.{state_at, next_of, end_of}
use Rattle.simulation.proofs.Machines.{state_later}
use Rattle.rv_run.specs.Run.{Spot, risc}
use Rattle.rv_acts.specs.Laws.{Lock, here, both, Alike, AlikeAt, Ended, Meets, end_both, go_both}

pub lock_on : (table : Entries) (s t u v x y : Spot) → Lock table s t u v → Lock table u v x y → Lock table s t x y
lock_on table s t u v x y (here s' t') r = r
lock_on table s t u v x y (both s0 t0 s' t' u' v' e f o r l) m = both s t s' t' x y e f o r (lock_on table s' t' u v x y l m)

-- where both step on, both are going
going_alike : (table : Entries) (s t s' t' : Spot) → (risc table).step s ≡ Some s' → (risc table).step t ≡ Some t' → t.world.out ≡ s.world.out → t.world.err ≡ s.world.err → Alike table s t
going_alike table s t s' t' e f o r = record { out = o; err = r; end = ap (λ x. end_of x ((risc table).end t)) f ∙ sym (ap (λ x. end_of x ((risc table).end s)) e) }

pub later_alike : (table : Entries) (n : ℕ) (s t s' t' : Spot) → (risc table).step s ≡ Some s' → (risc table).step t ≡ Some t' → AlikeAt table n s' t' → AlikeAt table (suc n) s t
later_alike table n s t s' t' e f h = subst₂ (Alike table) (state_later (risc table) s s' e n) (state_later (risc table) t t' f n) h

pub lock_alike : (table : Entries) (n : ℕ) (s t u v : Spot) → Lock table s t u v → ((m : ℕ) → m ≤ n → AlikeAt table m u v) → AlikeAt table n s t
lock_alike table n s t u v (here s' t') k = k n (le_refl n)
lock_alike table zero s t u v (both s0 t0 s' t' u' v' e f o r l) k = going_alike table s t s' t' e f o r
lock_alike table (suc n) s t u v (both s0 t0 s' t' u' v' e f o r l) k =
    later_alike table n s t s' t' e f (lock_alike table n s' t' u v l (λ m h. k m (omega arith)))

stays : (table : Entries) (s : Spot) (n : ℕ) → (risc table).step s ≡ None → state_at (risc table) s n ≡ s
stays table s zero e = refl
stays table s (suc n) e = ap (λ u. next_of u ((risc table).step u)) (stays table s n e) ∙ ap (next_of s) e

ended_alike : (table : Entries) (s t : Spot) (n : ℕ) → Ended table s t → AlikeAt table n s t
ended_alike table s t n h = subst₂ (Alike table) (sym (stays table s n h.stop_s)) (sym (stays table t n h.stop_t)) h.alike

-- what two machines in some relation do next: they meet two that are in it again
pub record NextOf (table : Entries) (R : Spot → Spot → Type 0) (s t : Spot) : Type 0 where
  pub to_s : Spot
  pub to_t : Spot
  pub meets : Meets table s t to_s to_t
  pub again : R to_s to_t

-- then they are alike for ever
module _ (table : Entries) (R : Spot → Spot → Type 0) (next : (s t : Spot) → R s t → NextOf table R s t) where
  by_fuel : (fuel n : ℕ) (s t u v : Spot) → n ≤ fuel → Meets table s t u v → R u v → AlikeAt table n s t
  by_fuel fuel n s t u v l (end_both x y k h) again = lock_alike table n s t x y k (λ m _. ended_alike table x y m h)
  by_fuel fuel zero s t u v l (go_both s' t' e f o r k) again = going_alike table s t s' t' e f o r
  by_fuel zero (suc n) s t u v l (go_both s' t' e f o r k) again = absurd (omega arith)
  by_fuel (suc fuel) (suc n) s t u v l (go_both s' t' e f o r k) again =
      later_alike table n s t s' t' e f (lock_alike table n s' t' u v k (λ m q. let x = next u v again in by_fuel fuel m u v x.to_s x.to_t (omega arith) x.meets x.again))

  pub alike_for_ever : (n : ℕ) (s t : Spot) → R s t → AlikeAt table n s t
  alike_for_ever n s t h = let x = next s t h in by_fuel n n s t x.to_s x.to_t (le_refl n) x.meets x.again

-- the same along two sequences
pub alike_along : (table : Entries) (s t : ℕ → Spot) → ((i : ℕ) → Meets table (s i) (t i) (s (suc i)) (t (suc i))) → (n : ℕ) → AlikeAt table n (s 0) (t 0)
alike_along table s t meets n =
    alike_for_ever table (λ u v. (i : ℕ) × (u ≡ s i) × (v ≡ t i)) (λ u v h. record { to_s = s (suc h.0); to_t = t (suc h.0); meets = subst₂ (λ u v. Meets table u v (s (suc h.0)) (t (suc h.0))) (sym h.1) (sym h.2) (meets h.0); again = (suc h.0, refl, refl) }) n (s 0) (t 0) (0, refl, refl)
