-- Routes are done by the machine, by two in lockstep, and are walks of a simulation in which blocks are made.
use Rattle.std.proofs.Common.{◌≡◌, ℕ, zero, suc, ◌+◌, ◌-◌, ◌*◌, ◌<◌, ◌≤◌, List, [], ◌∷◌, ◌++◌, length, Some, None, arith, refl, sym, ap, ◌∙◌, subst, subst₂, ⊎_elim, inr, length-append, append-nil, append_assoc}
use Rattle.std.specs.Prelude.{slice_get}
use Rattle.std.specs.Int.{w64, from_le_bytes}
use Rattle.std.proofs.lemmas.Bool.{cases_lt}
use Rattle.std.proofs.lemmas.Option.{slice_get_within}
use Rattle.rv_isa.specs.declared.word.Ins.{Ins}
use Rattle.elf_static.specs.declared.image.Entries.{Entries}
use Rattle.smlc_base.specs.declared.point.Point.{Point}
use Rattle.simulation.specs.Blocks.{IsPrefix, Block, StandsAt}
use Rattle.simulation.specs.Blocks as sim
use Rattle.simulation.specs.Machines.{Machine, state_at, next_of}
use Rattle.simulation.proofs.Machines.{Walks, stay, walk, Calm, walks_on, state_later, state-after}
use Rattle.simulation.proofs.Lists.{get_split}
use Rattle.rv_run.specs.Heap.{body_words}
use Rattle.rv_run.specs.Seen.{listed_from, block_of, inner, blocks}
use Rattle.rv_run.specs.Run.{Spot, risc, row_at, point_of}
use Rattle.rv_run.proofs.Counting.{listed_length, listed_get}
use Rattle.rv_acts.specs.Emitted.{Emitted, IsLaid, IsQuiet}
use Rattle.rv_acts.specs.Fine.{Fine, Shown}
use Rattle.rv_acts.specs.Act.{Act}
use Rattle.rv_acts.specs.Trip.{Steady, Trip, stop, Holds}
use Rattle.rv_acts.specs.Laws.{TripDone, BothShown, both}
use Rattle.rv_acts.proofs.Arena.{word_same, holds_keep, holds_sees, arena_watches}
use Rattle.rv_acts.proofs.Doing.{act_done}
use Rattle.rv_acts.proofs.Locks.{lock_on}
use Rattle.rv_acts.proofs.Trips.{trip_on, trip_steady, trip_done, trip_lock, trip_walk, act_writes, steady_at, unseen_at}
use Rattle.rv_pieces.specs.Route.{Trips, Grows, Route, by_trip, by_growth, Routes}
use Rattle.rv_pieces.specs.Laws.{RouteWalked}

pub route_on : (I : Emitted) (Q : ℕ → Type 0) (m n : ℕ) (a b c : Fine) → Trip I Q m a b → Route I Q n b c → Route I Q (m + n) a c
route_on I Q m n a b c t (by_trip n' b' c' r) = by_trip (m + n) a c (trip_on I Q m n a b c t r)
route_on I Q m n a b c t (by_growth k l i b' d e c' r st q x g s) = subst (λ j. Route I Q j a c) (let z : m + k + suc l ≡ m + (k + suc l) = omega arith in z) (by_growth (m + k) l i a d e c (trip_on I Q m k a b d t r) st q x g s)

module _ {I : Emitted} {Q : ℕ → Type 0} where
  pub arrive : {Goal : Fine → Type 0} {most : ℕ} {a : Fine} → Trips I Q Goal most a → Routes I Q Goal most a
  arrive {Goal} {most} {a} t = record { to = t.to; count = t.count; few = t.few; route = by_trip t.count a t.to t.trip; goal = t.goal }

  pub trip_first : {Mid Goal : Fine → Type 0} (m n : ℕ) {a : Fine} → Trips I Q Mid m a → ((b : Fine) → Steady I a b → Mid b → Routes I Q Goal n b) → Routes I Q Goal (m + n) a
  trip_first {Mid} {Goal} m n {a} t k =
      let r = k t.to (trip_steady I Q t.count a t.to t.trip) t.goal in
      record { to = r.to; count = t.count + r.count; few = let x = t.few in let y = r.few in omega arith; route = route_on I Q t.count r.count a t.to r.to t.trip r.route; goal = r.goal }

  pub grow_first : {Goal : Fine → Type 0} (n : ℕ) {a : Fine} (i : Ins) (b : Fine) → slice_get I.code a.at ≡ Some i → Q a.at → Act I i a b → Grows I a b → Routes I Q Goal n b → Routes I Q Goal (suc n) a
  grow_first {Goal} n {a} i b st q x g r = record { to = r.to; count = 0 + suc r.count; few = let y = r.few in omega arith; route = by_growth 0 r.count i a a b r.to (stop a) st q x g r.route; goal = r.goal }

  pub route_within : {Goal : Fine → Type 0} (m n : ℕ) {a : Fine} → m ≤ n → Routes I Q Goal m a → Routes I Q Goal n a
  route_within m n l r = record { to = r.to; count = r.count; few = let x = r.few in omega arith; route = r.route; goal = r.goal }

-- two states of which the same is known do it in lockstep
pub route_lock : (I : Emitted) (laid : IsLaid I) (Q : ℕ → Type 0) (n : ℕ) (a c : Fine) → Route I Q n a c → (s t : Spot) → Shown I a s → Shown I a t → BothShown I c s t
route_lock I laid Q n a c (by_trip n' a' c' r) s t h k = trip_lock I laid Q n a c r s t h k
route_lock I laid Q n a c (by_growth m l i a' b d c' r st q x g rest) s t h k =
    let u = trip_lock I laid Q m a b r s t h k in
    let e = act_done I laid i b d x u.to_s u.one st in
    let f = act_done I laid i b d x u.to_t u.other st in
    let y = route_lock I laid Q l d c rest e.to f.to e.shown f.shown in
    record {
      to_s = y.to_s;
      to_t = y.to_t;
      lock = lock_on I.entries s t u.to_s u.to_t y.to_s y.to_t u.lock (both u.to_s u.to_t e.to f.to y.to_s y.to_t e.step f.step (u.other.out ∙ sym u.one.out) (u.other.err ∙ sym u.one.err) y.lock);
      one = y.one;
      other = y.other;
    }

-- ---- the machine does it in so many steps, past no entry

pub act_alone : (I : Emitted) (laid : IsLaid I) (i : Ins) (a b : Fine) → slice_get I.code a.at ≡ Some i → IsQuiet I a.at → Act I i a b → (s : Spot) → Shown I a s → TripDone I 1 b s
act_alone I laid i a b e q x s m =
    let d = act_done I laid i a b x s m e in
    record { to = d.to; there = ap (next_of s) d.step; shown = d.shown; quiet = λ k l. let z : k ≡ 0 = omega arith in ap (λ k. (risc I.entries).pass (state_at (risc I.entries) s k)) z ∙ ap (λ n. point_of (row_at I.entries.rows n)) m.pc ∙ ap point_of q }

pub done_on : (I : Emitted) (m n : ℕ) (b c : Fine) (s : Spot) → (x : TripDone I m b s) → TripDone I n c x.to → TripDone I (m + n) c s
done_on I m n b c s x y = record {
  to = y.to;
  there = sym (state-after (risc I.entries) s m n) ∙ ap (λ t. state_at (risc I.entries) t n) x.there ∙ y.there;
  shown = y.shown;
  quiet = λ k l. ⊎_elim (λ (q : k < m). x.quiet k q) (λ (q : m ≤ k). later k (k - m) (omega arith) (omega arith)) (cases_lt k m);
}
  where
    later : (k j : ℕ) → m + j ≡ k → j < n → (risc I.entries).pass (state_at (risc I.entries) s k) ≡ None
    later k j e l = subst (λ k. (risc I.entries).pass (state_at (risc I.entries) s k) ≡ None) e (ap (risc I.entries).pass (sym (state-after (risc I.entries) s m j) ∙ ap (λ t. state_at (risc I.entries) t j) x.there) ∙ y.quiet j l)

pub route_done : (I : Emitted) (laid : IsLaid I) (n : ℕ) (a c : Fine) → Route I (IsQuiet I) n a c → (s : Spot) → Shown I a s → TripDone I n c s
route_done I laid n a c (by_trip n' a' c' r) s h = trip_done I laid n a c r s h
route_done I laid n a c (by_growth m l i a' b d c' r st q x g rest) s h =
    let u = trip_done I laid m a b r s h in
    let v = act_alone I laid i b d st q x u.to u.shown in
    let w = route_done I laid l d c rest v.to v.shown in
    done_on I m (suc l) b c s u (subst (λ k. TripDone I k c u.to) (let z : 1 + l ≡ suc l = omega arith in z) (done_on I 1 l d c u.to v w))

-- ---- what is known of the arena when x8 has moved

-- the word at a place of the arena
abbrev pub arena_word : Emitted → (ℕ → ℕ) → ℕ → ℕ
arena_word I m j = from_le_bytes w64 (listed_from m (I.entries.arena + 8 * j) 8)

get_grown : (f : ℕ → ℕ) (i n j w : ℕ) → slice_get (listed_from f i n) j ≡ Some w → (w ≡ f (i + j)) × (j < n)
get_grown f i n j w e =
    let l : j < n = let z = slice_get_within (listed_from f i n) j w e in let y = listed_length f i n in omega arith in
    let q : Some w ≡ Some (f (i + j)) = sym e ∙ listed_get f i n j l in
    (some_is w (f (i + j)) q, l)
  where
    some_is : (x y : ℕ) → Some x ≡ Some y → x ≡ y
    some_is x y e = cc

-- All bytes between the old x8 and the new one are known, and none below has changed: then the words below the new one are those that
-- were, and the new ones.
pub holds_grown : (I : Emitted) (ws : List ℕ) (n : ℕ) (a b : Fine) → Holds I ws a → b.regs 8 ≡ a.regs 8 + 8 * n → length ws + n ≤ I.entries.arena_words → ((x : ℕ) → I.entries.arena ≤ x → x < a.regs 8 → b.byte x ≡ a.byte x) → ((x : ℕ) → a.regs 8 ≤ x → x < a.regs 8 + 8 * n → b.byte x < 256) → Holds I (ws ++ listed_from (arena_word I b.byte) (length ws) n) b
holds_grown I ws n a b h e room low new =
    let l : length (ws ++ listed_from (arena_word I b.byte) (length ws) n) ≡ length ws + length (listed_from (arena_word I b.byte) (length ws) n) = length-append ws (listed_from (arena_word I b.byte) (length ws) n) in
    let l2 = listed_length (arena_word I b.byte) (length ws) n in
    let x8 = h.x8 in
    record {
      x8 = omega arith;
      room = omega arith;
      mem = λ j w q. ⊎_elim
          (λ (z : slice_get ws j ≡ Some w). let k = slice_get_within ws j w z in word_same a.byte b.byte (I.entries.arena + 8 * j) w (λ i r. low (I.entries.arena + 8 * j + i) (omega arith) (omega arith)) (h.mem j w z))
          (λ (z : (k : ℕ) × (j ≡ length ws + k) × (slice_get (listed_from (arena_word I b.byte) (length ws) n) k ≡ Some w)).
          let r = get_grown (arena_word I b.byte) (length ws) n z.0 w z.2 in
          let k = r.1 in
          let f = z.1 in
          record { known = λ i q. new (I.entries.arena + 8 * j + i) (omega arith) (omega arith); is = ap (arena_word I b.byte) f ∙ sym r.0 })
          (get_split ws (listed_from (arena_word I b.byte) (length ws) n) j w q);
    }

-- the words of an arena that goes on are seen as blocks that go on
pub blocks_grow : (table : Entries) (n : ℕ) (ws more : List ℕ) → sim.Grows (blocks table n ws) (blocks table n (ws ++ more))
blocks_grow table n [] more a x e = absurd (cc)
blocks_grow table zero (h ∷ ws) more zero x e =
    let q : block_of table h ws ≡ x = some_is (block_of table h ws) x e in
    (block_of table h (ws ++ more), refl, ap (λ (x : Block). x.kind) q, ap (λ (x : Block). x.words) q)
  where
    some_is : (x y : Block) → Some x ≡ Some y → x ≡ y
    some_is x y e = cc
blocks_grow table zero (h ∷ ws) more (suc a) x e = blocks_grow table (body_words h) ws more a x e
blocks_grow table (suc n) (w ∷ ws) more zero x e =
    let q : inner ≡ x = some_is inner x e in
    (inner, refl, ap (λ (x : Block). x.kind) q, ap (λ (x : Block). x.words) q)
  where
    some_is : (x y : Block) → Some x ≡ Some y → x ≡ y
    some_is x y e = cc
blocks_grow table (suc n) (w ∷ ws) more (suc a) x e = blocks_grow table n ws more a x e

-- the words that stand there now
abbrev pub new_words : (I : Emitted) → List ℕ → Fine → ℕ → List ℕ
new_words I ws b n = listed_from (arena_word I b.byte) (length ws) n

pub holds_more : (I : Emitted) (ws : List ℕ) (a b : Fine) → (g : Grows I a b) → Holds I ws a → Holds I (ws ++ new_words I ws b g.words) b
holds_more I ws a b g h =
    let x8 = h.x8 in
    let y8 = g.x8 in
    let r = g.room in
    holds_grown I ws g.words a b h g.x8 (omega arith) (λ x l k. g.low x (inr (l, k))) (λ x l k. g.known x l (omega arith))

-- ---- a walk of a simulation

pub record RouteWalk (I : Emitted) (labels : List Point) (ws : List ℕ) (n : ℕ) (c : Fine) (s : Spot) : Type 0 where
  pub to : Spot
  pub walk : Walks (risc I.entries) (Calm (risc I.entries) labels) n s to
  pub shown : Shown I c to
  pub more : List ℕ
  pub holds : Holds I (ws ++ more) c

module _ (I : Emitted) (laid : IsLaid I) (labels : List Point) where
  pub route_walk : (n : ℕ) (a c : Fine) → Route I (IsQuiet I) n a c → (ws : List ℕ) → Holds I ws a → (s : Spot) → Shown I a s → RouteWalk I labels ws n c s
  route_walk n a c (by_trip n' a' c' r) ws h s m =
      let x = trip_walk I laid labels (blocks I.entries 0 ws) (Holds I ws) (arena_watches I laid ws) n a c r h s m in
      record { to = x.to; walk = x.walk; shown = x.shown; more = []; holds = subst (λ l. Holds I l c) (sym (append-nil ws)) (holds_keep I ws a c (trip_steady I (IsQuiet I) n a c r) h) }
  route_walk n a c (by_growth k l i a' b d c' r st q x g rest) ws h s m =
      let u = trip_walk I laid labels (blocks I.entries 0 ws) (Holds I ws) (arena_watches I laid ws) k a b r h s m in
      let hb = holds_keep I ws a b (trip_steady I (IsQuiet I) k a b r) h in
      let hd = holds_more I ws b d g hb in
      let e = act_done I laid i b d x u.to u.shown st in
      let p : IsPrefix u.to.world.out e.to.world.out = subst₂ IsPrefix (sym u.shown.out) (sym e.shown.out) (act_writes I i b d x) in
      let y = route_walk l d c rest (ws ++ new_words I ws d g.words) hd e.to e.shown in
      record {
        to = y.to;
        walk = walks_on (risc I.entries) (Calm (risc I.entries) labels) k (suc l) s u.to y.to u.walk (walk l u.to e.to y.to e.step (unseen_at I labels b u.to u.shown q, steady_at I (blocks I.entries 0 ws) (blocks I.entries 0 (ws ++ new_words I ws d g.words)) (blocks_grow I.entries 0 ws (new_words I ws d g.words)) u.to e.to e.step p (holds_sees I laid ws b u.to u.shown hb) (holds_sees I laid (ws ++ new_words I ws d g.words) d e.to e.shown hd)) y.walk);
        shown = y.shown;
        more = new_words I ws d g.words ++ y.more;
        holds = subst (λ l. Holds I l c) (append_assoc ws (new_words I ws d g.words) y.more) y.holds;
      }

walks_calm : {S : Type 0} (M : Machine S) (Q : S → Type 0) (n : ℕ) (s t : S) → Walks M Q n s t → (k : ℕ) → k < n → Q (state_at M s k)
walks_calm M Q n s t (stay s') k l = absurd (omega arith)
walks_calm M Q n s t (walk c s' u t' e q w) zero l = q
walks_calm M Q n s t (walk c s' u t' e q w) (suc k) l = subst Q (state_later M s u e k) (walks_calm M Q c u t w k (omega arith))

pub route_walked : (I : Emitted) (laid : IsLaid I) (labels : List Point) (ws : List ℕ) (n : ℕ) (a c : Fine) → Route I (IsQuiet I) n a c → Holds I ws a → (s : Spot) → Shown I a s → RouteWalked I labels ws n c s
route_walked I laid labels ws n a c r h s m =
    let w = route_walk I laid labels n a c r ws h s m in
    record { done = route_done I laid n a c r s m; calm = walks_calm (risc I.entries) (Calm (risc I.entries) labels) n s w.to w.walk; more = w.more; holds = w.holds }
