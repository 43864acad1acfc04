-- Lists that go on by what has a property.
use Rattle.std.proofs.Common.{◌≡◌, ℕ, ◌+◌, ◌<◌, ◌≤◌, true, false, List, [], ◌∷◌, ◌++◌, length, take, ◌⊎◌, inl, inr, ⊎_elim, refl, sym, ap, ◌∙◌, subst, arith, append-nil, append_assoc, length-append, Option, Some, None}
use Rattle.std.specs.Prelude.{get_or}
use Rattle.std.proofs.lemmas.Bool.{cases_lt}
use Rattle.std.proofs.lemmas.List.{take_more, take_all}
use Rattle.rv_machine.specs.State.{State}
use Rattle.simulation.specs.Blocks.{IsAmong}
use Rattle.simulation.proofs.Lists.{among_left, among_right, among_append, among_one}
use Rattle.rv_run.specs.Heap.{heap_word, is_string, body_words}
use Rattle.rv_run.specs.Counted.{PointsTo}
use Rattle.heap_reach.specs.Numbers.{Adds}
use Rattle.heap_reach.specs.Walk.{Targets, IsRoot, IsField, IsChild}

pub adds_none : (P : ℕ → Type 0) (old : List ℕ) → ((j : ℕ) → P j → ⊥) → Adds P old old
adds_none P old n = record { more = []; on = sym (append-nil old); each = λ j h. absurd h; all = λ j p. absurd (n j p) }

-- one that is there
pub adds_there : (P : ℕ → Type 0) (old : List ℕ) (x : ℕ) → ((j : ℕ) → P j → j ≡ x) → IsAmong x old → Adds P old old
adds_there P old x one h = record { more = []; on = sym (append-nil old); each = λ j h. absurd h; all = λ j p. subst (λ k. IsAmong k old) (sym (one j p)) h }

-- one that is new
pub adds_one : (P : ℕ → Type 0) (old : List ℕ) (x : ℕ) → ((j : ℕ) → P j → j ≡ x) → P x → Adds P old (old ++ x ∷ [])
adds_one P old x one p = record {
  more = x ∷ [];
  on = refl;
  each = λ j h. subst P (sym (among_one j x h)) p;
  all = λ j q. among_right j old (x ∷ []) (inl (one j q));
}

pub adds_same : (P Q : ℕ → Type 0) (old new : List ℕ) → ((j : ℕ) → P j → Q j) → ((j : ℕ) → Q j → P j) → Adds P old new → Adds Q old new
adds_same P Q old new to from a = record { more = a.more; on = a.on; each = λ j h. to j (a.each j h); all = λ j q. a.all j (from j q) }

pub adds_both : (P Q R : ℕ → Type 0) (old mid new : List ℕ) → ((j : ℕ) → P j → R j) → ((j : ℕ) → Q j → R j) → ((j : ℕ) → R j → P j ⊎ Q j) → Adds P old mid → Adds Q mid new → Adds R old new
adds_both P Q R old mid new left right parts a b = record {
  more = a.more ++ b.more;
  on = b.on ∙ ap (λ xs. xs ++ b.more) a.on ∙ append_assoc old a.more b.more;
  each = λ j h. ⊎_elim (λ (u : IsAmong j a.more). left j (a.each j u)) (λ (u : IsAmong j b.more). right j (b.each j u)) (among_append j a.more b.more h);
  all = λ j r. ⊎_elim
      (λ (p : P j). subst (IsAmong j) (sym b.on) (among_left j mid b.more (a.all j p)))
      (λ (q : Q j). b.all j q)
      (parts j r);
}

pub adds_longer : (P : ℕ → Type 0) (old new : List ℕ) → Adds P old new → length old ≤ length new
adds_longer P old new a = let e = length-append old a.more in let f : length new ≡ length (old ++ a.more) = ap length a.on in omega arith

-- what was there is there
pub adds_keep : (P : ℕ → Type 0) (old new : List ℕ) (j : ℕ) → Adds P old new → IsAmong j old → IsAmong j new
adds_keep P old new j a h = subst (IsAmong j) (sym a.on) (among_left j old a.more h)

module _ (arena words : ℕ) (s : State) where
  -- a word points to one block at most
  pub one_target : (v i j : ℕ) → PointsTo arena words s v i → PointsTo arena words s v j → j ≡ i
  one_target v i j p q = let a = p.address in let b = q.address in omega arith

  pub target_none : (v : ℕ) (o : Option ℕ) (old : List ℕ) → o ≡ None → Targets arena words s v o → Adds (PointsTo arena words s v) old old
  target_none v None old e t = adds_none (PointsTo arena words s v) old t
  target_none v (Some j) old e t = absurd (cc)

  pub target_some : (v j : ℕ) (old new : List ℕ) → PointsTo arena words s v j → Adds (λ i. i ≡ j) old new → Adds (PointsTo arena words s v) old new
  target_some v j old new p a = adds_same (λ i. i ≡ j) (PointsTo arena words s v) old new (λ i e. subst (PointsTo arena words s v) (sym e) p) (λ i q. one_target v j i p q) a

  pub no_roots : (old : List ℕ) → Adds (IsRoot arena words s []) old old
  no_roots old = adds_none (IsRoot arena words s []) old (λ j r. r.1)

  pub roots_more : (roots : List ℕ) (v : ℕ) (old mid new : List ℕ) → Adds (IsRoot arena words s roots) old mid → Adds (PointsTo arena words s v) mid new → Adds (IsRoot arena words s (roots ++ v ∷ [])) old new
  roots_more roots v old mid new a b = adds_both (IsRoot arena words s roots) (PointsTo arena words s v) (IsRoot arena words s (roots ++ v ∷ [])) old mid new
      (λ j r. (r.0, among_left r.0 roots (v ∷ []) r.1, r.2))
      (λ j p. (v, among_right v roots (v ∷ []) (inl refl), p))
      (λ j r. ⊎_elim
      (λ (u : IsAmong r.0 roots). inl (r.0, u, r.2))
      (λ (u : IsAmong r.0 (v ∷ [])). inr (subst (λ w. PointsTo arena words s w j) (among_one r.0 v u) r.2))
      (among_append r.0 roots (v ∷ []) r.1))
      a b

  pub roots_next : (roots : List ℕ) (i d : ℕ) (old mid new : List ℕ) → i < length roots → Adds (IsRoot arena words s (take i roots)) old mid → Adds (PointsTo arena words s (get_or roots i d)) mid new → Adds (IsRoot arena words s (take (i + 1) roots)) old new
  roots_next roots i d old mid new l a b = subst (λ rs. Adds (IsRoot arena words s rs) old new) (sym (take_more roots i d l)) (roots_more (take i roots) (get_or roots i d) old mid new a b)

  pub roots_all : (roots : List ℕ) (i : ℕ) (old new : List ℕ) → length roots ≤ i → Adds (IsRoot arena words s (take i roots)) old new → Adds (IsRoot arena words s roots) old new
  roots_all roots i old new l a = subst (λ rs. Adds (IsRoot arena words s rs) old new) (take_all i roots l) a

  pub no_fields : (i : ℕ) (old : List ℕ) → Adds (IsField arena words s i 0) old old
  no_fields i old = adds_none (IsField arena words s i 0) old (λ j f. let l = f.2 in omega arith)

  pub field_none : (i : ℕ) (old : List ℕ) → heap_word arena s i ≡ None → Adds (IsField arena words s i 1) old old
  field_none i old e = adds_none (IsField arena words s i 1) old (λ j f.
      let l = f.2 in
      let z : i + f.0 ≡ i = omega arith in
      let g : heap_word arena s i ≡ Some f.1 = subst (λ n. heap_word arena s n ≡ Some f.1) z f.3 in
      absurd (cc))

  pub field_some : (i v : ℕ) (old new : List ℕ) → heap_word arena s i ≡ Some v → Adds (PointsTo arena words s v) old new → Adds (IsField arena words s i 1) old new
  field_some i v old new e a = adds_same (PointsTo arena words s v) (IsField arena words s i 1) old new
      (λ j p. (0, v, omega arith, (let z : i ≡ i + 0 = omega arith in subst (λ n. heap_word arena s n ≡ Some v) z e), p))
      (λ j f.
      let l = f.2 in
      let z : i + f.0 ≡ i = omega arith in
      let g : heap_word arena s i ≡ Some f.1 = subst (λ n. heap_word arena s n ≡ Some f.1) z f.3 in
      let q : f.1 ≡ v = cc in
      subst (λ w. PointsTo arena words s w j) q f.4)
      a

  pub fields_more : (i n : ℕ) (old mid new : List ℕ) → Adds (IsField arena words s i n) old mid → Adds (IsField arena words s (i + n) 1) mid new → Adds (IsField arena words s i (n + 1)) old new
  fields_more i n old mid new a b = adds_both (IsField arena words s i n) (IsField arena words s (i + n) 1) (IsField arena words s i (n + 1)) old mid new
      (λ j f. let l = f.2 in (f.0, f.1, omega arith, f.3, f.4))
      (λ j f.
      let l = f.2 in
      let z : i + n + f.0 ≡ i + (n + f.0) = omega arith in
      (n + f.0, f.1, omega arith, subst (λ m. heap_word arena s m ≡ Some f.1) z f.3, f.4))
      (λ j f. ⊎_elim
      (λ (l : f.0 < n). inl (f.0, f.1, l, f.3, f.4))
      (λ (l : n ≤ f.0).
      let m = f.2 in
      let z : i + f.0 ≡ i + n + 0 = omega arith in
      inr (0, f.1, omega arith, subst (λ k. heap_word arena s k ≡ Some f.1) z f.3, f.4))
      (cases_lt f.0 n))
      a b

  pub child_none : (i : ℕ) (old : List ℕ) → heap_word arena s i ≡ None → Adds (IsChild arena words s i) old old
  child_none i old e = adds_none (IsChild arena words s i) old (λ j f. let g = f.1 in absurd (cc))

  pub child_string : (i h : ℕ) (old : List ℕ) → heap_word arena s i ≡ Some h → is_string h ≡ true → Adds (IsChild arena words s i) old old
  child_string i h old e t = adds_none (IsChild arena words s i) old (λ j f.
      let g = f.1 in
      let q : f.0 ≡ h = cc in
      let u : is_string h ≡ false = subst (λ k. is_string k ≡ false) q f.2 in
      absurd (cc))

  pub child_fields : (i h : ℕ) (old new : List ℕ) → heap_word arena s i ≡ Some h → is_string h ≡ false → Adds (IsField arena words s (i + 1) (body_words h)) old new → Adds (IsChild arena words s i) old new
  child_fields i h old new e t a = adds_same (IsField arena words s (i + 1) (body_words h)) (IsChild arena words s i) old new
      (λ j f. (h, e, t, f))
      (λ j f. let g = f.1 in let q : f.0 ≡ h = cc in subst (λ k. IsField arena words s (i + 1) (body_words k) j) q f.3)
      a
