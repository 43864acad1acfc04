-- Equality of terms is what the machine finds pair by pair.
use Rattle.std.proofs.Common.{◌≡◌, ℕ, zero, suc, ◌+◌, ◌<◌, ◌≤◌, Bool, true, false, not, List, [], ◌∷◌, ◌++◌, length, Option, Some, None, refl, sym, ap, ◌∙◌, subst, arith, length-append, append_assoc}
use Rattle.std.specs.Prelude.{ℤ, pos, slice_get, nat_eq, bytes_eq, cond, ◌&&◌, zip}
use Rattle.std.specs.Ordering.{int_eq}
use Rattle.smlc_base.specs.declared.primitive.Primitive.TheVariants as prim
use Rattle.prim_meaning.specs.Data as dat
use Rattle.prim_meaning.specs.Data.{AScalar, AText}
use Rattle.prim_meaning.specs.Meaning.{Seen, Scalar, Text, Tuple, Applied, Cell, Packet, Opaque, Verdict, Equal, Unequal, AsPairs, verdict, compared, is_deep, decided, turn, equals, Comes, Compares}
use Rattle.prim_meaning.specs.Alike.{AllAlike, PairAlike, SameVerdict, both_equal, both_unequal, both_pairs}
use Rattle.prim_meaning.proofs.Alike.{turn_alike}
use Rattle.sml_tree.specs.declared.bare.Bare.{Bare}
use Rattle.simulation.proofs.Machines.{Walks, stay, walks_on}
use Rattle.simulation.proofs.Lists.{get_append, get_last}
use Rattle.sml_def.specs.State.{Value, Address, Block, Pending, Control, Ret, Eq}
use Rattle.sml_def.specs.State as m
use Rattle.sml_def.specs.Memory.{going, making, making_all}
use Rattle.sml_def.specs.Builtin as mb
use Rattle.sml_def.specs.Builtin.{pend, by_verdict, carry}
use Rattle.sml_def.specs.Step.{step, compare}
use Rattle.sml_rules.specs.Terms.{Term, Terms, no_terms, more_terms, listed, State, Result, Gives}
use Rattle.sml_rules.specs.Terms as t
use Rattle.sml_rules.specs.Apply as basic
use Rattle.sml_rules.specs.Apply.{equal, all_equal, same_datum, datum}
use Rattle.sml_rules.proofs.Relation.{World, Later, later_refl, later_trans, are_later}
use Rattle.sml_rules.proofs.Relation as r
use Rattle.sml_rules.proofs.Environments.{Is}
use Rattle.sml_rules.proofs.Forms.{Holds, form}
use Rattle.sml_rules.proofs.Follows.{Kept, Conf, conf, memory, with_blocks, M, Any, more_later, more_holds, step_is, Reaches, Follows, Back, walk_on, step_on, here, one_step, inv_walk}
use Rattle.sml_rules.proofs.Seen.{see, see_cell, InMemory, Stands, AtCell, in_memory, views}

-- ---- Terms alone

abbrev mutual
  pub size : Term → ℕ
  size (t.Record us) = suc (size_all us)
  size (t.Applied n u) = suc (size u)
  size _ = 1

  pub size_all : Terms → ℕ
  size_all (more_terms u us) = size u + size_all us
  size_all no_terms = 0

-- the first of each pair
abbrev pub pairs_size : List (Term × Term) → ℕ
pairs_size (q ∷ qs) = size q.0 + pairs_size qs
pairs_size [] = 0

-- all pairs are of equal terms
abbrev pub pairs_equal : List (Term × Term) → Bool
pairs_equal (q ∷ qs) = equal q.0 q.1 && pairs_equal qs
pairs_equal [] = true

all_is_pairs : (us xs : Terms) → all_equal us xs ≡ pairs_equal (zip (listed us) (listed xs))
all_is_pairs (more_terms u us) (more_terms x xs) = ap (λ q. equal u x && q) (all_is_pairs us xs)
all_is_pairs no_terms no_terms = refl
all_is_pairs no_terms (more_terms x xs) = refl
all_is_pairs (more_terms u us) no_terms = refl

zip_size : (us xs : Terms) → pairs_size (zip (listed us) (listed xs)) ≤ size_all us
zip_size (more_terms u us) (more_terms x xs) = let rest = zip_size us xs in omega (arith, rest)
zip_size no_terms no_terms = omega arith
zip_size no_terms (more_terms x xs) = omega arith
zip_size (more_terms u us) no_terms = omega arith

-- What a verdict says of two terms, the first of this size: whether they are equal.
abbrev Says : ℕ → Bool → Verdict Term → Type 0
Says n same Equal = same ≡ true
Says n same Unequal = same ≡ false
Says n same (AsPairs pairs) = (same ≡ pairs_equal pairs) × (pairs_size pairs < n)

says_verdict : (n : ℕ) (q : Bool) → Says n q (verdict q)
says_verdict n true = refl
says_verdict n false = refl

and_true : (q : Bool) → (q && true) ≡ q
and_true true = refl
and_true false = refl

module _ (memory : List Term) where
  -- a scalar against any value
  scalar_says : (z : ℤ) (x : Term) → InMemory memory x → Says 1 (same_datum (AScalar z) (datum x)) (compared {V = Term} (Scalar z) (see memory x))
  scalar_says x (t.Number z) h = says_verdict 1 (int_eq x z)
  scalar_says x (t.Letter c) h = says_verdict 1 (int_eq x (pos c))
  scalar_says x (t.Record no_terms) h = says_verdict 1 (int_eq x (pos 0))
  scalar_says x (t.Tag n) h = says_verdict 1 (int_eq x (pos n))
  scalar_says x (t.Builtin prim.StdIn) h = says_verdict 1 (int_eq x (pos 0))
  scalar_says x (t.Cell i) h =
      subst (λ o. Says 1 false (compared {V = Term} (Scalar x) (see_cell i o))) (sym h.1) refl
  scalar_says x _ h = refl

  -- bytes
  text_says : (bs : List ℕ) (x : Term) → InMemory memory x → Says 1 (same_datum (AText bs) (datum x)) (compared {V = Term} (Text bs) (see memory x))
  text_says bs (t.Text bytes) h = says_verdict 1 (bytes_eq bs bytes)
  text_says bs (t.Builtin prim.StdIn) h = refl
  text_says bs (t.Cell i) h =
      subst (λ o. Says 1 false (compared {V = Term} (Text bs) (see_cell i o))) (sym h.1) refl
  text_says bs (t.Record (more_terms y ys)) h = refl
  text_says bs _ h = refl

  -- a record with fields
  record_says : (u : Term) (us : Terms) (x : Term) → InMemory memory x → Says (size (t.Record (more_terms u us))) (equal (t.Record (more_terms u us)) x) (compared (Tuple (u ∷ listed us)) (see memory x))
  record_says u us (t.Record (more_terms y ys)) h = (ap (λ q. equal u y && q) (all_is_pairs us ys), (let few = zip_size us ys in omega (arith, few)))
  record_says u us (t.Builtin prim.StdIn) h = refl
  record_says u us (t.Cell i) h =
      subst (λ o. Says (size (t.Record (more_terms u us))) false (compared (Tuple (u ∷ listed us)) (see_cell i o))) (sym h.1) refl
  record_says u us _ h = refl

  -- two applied constructors
  tags_say : (i j : ℕ) (u x : Term) → Says (suc (size u)) (nat_eq i j && equal u x) (cond (nat_eq i j) (AsPairs ((u, x) ∷ [])) Unequal)
  tags_say i j u x = go (nat_eq i j)
    where
      go : (q : Bool) → Says (suc (size u)) (q && equal u x) (cond q (AsPairs ((u, x) ∷ [])) Unequal)
      go true = (sym (and_true (equal u x)), omega arith)
      go false = refl

  applied_says : (k : ℕ) (u x : Term) → InMemory memory x → Says (size (t.Applied k u)) (equal (t.Applied k u) x) (compared (Applied 0 k u) (see memory x))
  applied_says k u (t.Applied n y) h = tags_say k n u y
  applied_says k u (t.Builtin prim.StdIn) h = refl
  applied_says k u (t.Cell i) h =
      subst (λ o. Says (size (t.Applied k u)) false (compared (Applied 0 k u) (see_cell i o))) (sym h.1) refl
  applied_says k u (t.Record (more_terms y ys)) h = refl
  applied_says k u _ h = refl

  -- an address
  cell_says : (k : ℕ) (u x : Term) → InMemory memory x → Says 1 (equal (t.Cell k) x) (compared (Cell k u) (see memory x))
  cell_says k u (t.Builtin prim.StdIn) h = refl
  cell_says k u (t.Cell i) h =
      subst (λ o. Says 1 (nat_eq k i) (compared (Cell k u) (see_cell i o))) (sym h.1) (says_verdict 1 (nat_eq k i))
  cell_says k u (t.Record (more_terms y ys)) h = refl
  cell_says k u _ h = refl

  -- what isn't seen equals nothing
  opaque_says : (x : Term) → InMemory memory x → Says 1 (same_datum dat.Other (datum x)) (compared {V = Term} Opaque (see memory x))
  opaque_says (t.Builtin prim.StdIn) h = refl
  opaque_says (t.Cell i) h =
      subst (λ o. Says 1 false (compared {V = Term} Opaque (see_cell i o))) (sym h.1) refl
  opaque_says _ h = refl

  packet_says : (n u x : Term) → InMemory memory x → Says 1 (same_datum dat.Other (datum x)) (compared (Packet n u) (see memory x))
  packet_says name argument (t.Builtin prim.StdIn) h = refl
  packet_says name argument (t.Cell i) h =
      subst (λ o. Says 1 false (compared (Packet name argument) (see_cell i o))) (sym h.1) refl
  packet_says name argument _ h = refl

  -- a turn of a comparison tells whether two terms are equal
  says : (u x : Term) → InMemory memory u → InMemory memory x → Says (size u) (equal u x) (turn (see memory) u x)
  says (t.Number z) x k h = scalar_says z x h
  says (t.Letter c) x k h = scalar_says (pos c) x h
  says (t.Text bytes) x k h = text_says bytes x h
  says (t.Record no_terms) x k h = scalar_says (pos 0) x h
  says (t.Record (more_terms u us)) x k h = record_says u us x h
  says (t.Tag n) x k h = scalar_says (pos n) x h
  says (t.Applied n u) x k h = applied_says n u x h
  says (t.Packet y u) x k h = packet_says y u x h
  says (t.Cell n) x k h =
      subst (λ o. Says 1 (equal (t.Cell n) x) (compared (see_cell n o) (see memory x))) (sym k.1) (cell_says n k.0 x h)
  says (t.Builtin prim.StdIn) x k h = scalar_says (pos 0) x h
  says _ x k h = opaque_says x h

-- ---- Terms and values

module _ (p : Bare) (w : World) (s : State) (holds : Holds p w s) where
  -- pairs of terms and the pairs of values that stand for them
  abbrev pub PairsAre : List (Term × Term) → List (Value × Value) → Type 0
  PairsAre qs ps = AllAlike (PairAlike (Stands p w s holds)) ps qs

  -- what a verdict of the machine says
  abbrev pub Tells : ℕ → Bool → Verdict Value → Type 0
  Tells n same Equal = same ≡ true
  Tells n same Unequal = same ≡ false
  Tells n same (AsPairs pairs) = (qs : List (Term × Term)) × (same ≡ pairs_equal qs) × PairsAre qs pairs × (pairs_size qs < n)

  tells_of : (n : ℕ) (same : Bool) (o : Verdict Value) (q : Verdict Term) → SameVerdict (Stands p w s holds) o q → Says n same q → Tells n same o
  tells_of n same o q both_equal h = h
  tells_of n same o q both_unequal h = h
  tells_of n same o q (both_pairs ps qs k) h = (qs, h.0, k, h.1)

  pub tells : (u x : Term) (v y : Value) → Is p w u v → Is p w x y → Tells (size u) (equal u x) (turn (mb.see p.texts w.store) v y)
  tells u x v y i j =
      tells_of (size u) (equal u x) _ _ (turn_alike (AtCell p w s holds) (Stands p w s holds) (mb.see p.texts w.store) (see s.memory) (views p w s holds) v y u x i j) (says s.memory u x (in_memory p w s holds u v _ (form p w s holds u v i)) (in_memory p w s holds x y _ (form p w s holds x y j)))

-- What isn't decided part by part is decided at once.
abbrev NoPairs : Verdict Value → Type 0
NoPairs (AsPairs pairs) = ⊥
NoPairs v = Unit {0}

verdict_at_once : (q : Bool) → NoPairs (verdict q)
verdict_at_once true = tt
verdict_at_once false = tt

no_pairs : (a b : Seen Value) → is_deep a b ≡ false → NoPairs (compared a b)
no_pairs (Scalar x) (Scalar y) e = verdict_at_once (int_eq x y)
no_pairs (Text x) (Text y) e = verdict_at_once (bytes_eq x y)
no_pairs (Tuple x) (Tuple y) e = absurd cc
no_pairs (Applied a m x) (Applied b n y) e = absurd cc
no_pairs (Cell a x) (Cell b y) e = verdict_at_once (nat_eq a b)
no_pairs _ _ e = tt

-- ---- Pending pairs

-- pairs that wait one behind the other, and what waits behind them
abbrev pub Chain : List Block → Option Address → List (Value × Value) → Option Address → Type 0
Chain store start [] tail = start ≡ tail
Chain store start (q ∷ ps) tail = (a : Address) × (next : Option Address) × (start ≡ Some a) × (slice_get store a ≡ Some (Pending q.0 q.1 next)) × Chain store next ps tail

chain_more : (store more : List Block) (start : Option Address) (ps : List (Value × Value)) (tail : Option Address) → Chain store start ps tail → Chain (store ++ more) start ps tail
chain_more store more start [] tail h = h
chain_more store more start (q ∷ ps) tail h =
    (h.0, h.1, h.2, get_append store more h.0 _ h.3, chain_more store more h.1 ps tail h.4)

chain_later : (w u : World) → Later w u → (start : Option Address) (ps : List (Value × Value)) (tail : Option Address) → Chain w.store start ps tail → Chain u.store start ps tail
chain_later w u l start [] tail h = h
chain_later w u l start (q ∷ ps) tail h =
    (h.0, h.1, h.2, l.blocks h.0 _ h.3 tt, chain_later w u l h.1 ps tail h.4)

pend_chain : (store : List Block) (ps : List (Value × Value)) (next : Option Address) → Chain (store ++ (pend ps next (length store)).0) (pend ps next (length store)).1 ps next
pend_chain store [] next = refl
pend_chain store (q ∷ ps) next =
    let rest = pend ps next (length store) in
    let all : List Block = store ++ rest.0 in
    let same : all ++ Pending q.0 q.1 rest.1 ∷ [] ≡ store ++ (rest.0 ++ Pending q.0 q.1 rest.1 ∷ []) = append_assoc store rest.0 (Pending q.0 q.1 rest.1 ∷ []) in
    let place : length store + length rest.0 ≡ length all = sym (length-append store rest.0) in
    (length store + length rest.0, rest.1, refl, ap (slice_get (store ++ (rest.0 ++ Pending q.0 q.1 rest.1 ∷ []))) place ∙ ap (λ x. slice_get x (length all)) (sym same) ∙ get_last all (Pending q.0 q.1 rest.1), subst (λ x. Chain x rest.1 ps next) same (chain_more all (Pending q.0 q.1 rest.1 ∷ []) rest.1 ps next (pend_chain store ps next)))

size_some : (u : Term) → 0 < size u
size_some (t.Record us) = omega arith
size_some (t.Applied n u) = omega arith
size_some _ = omega arith

module _ (p : Bare) (s : State) where
  pairs_later : (w u : World) (h : Holds p w s) (g : Holds p u s) → Later w u → (qs : List (Term × Term)) (ps : List (Value × Value)) → PairsAre p w s h qs ps → PairsAre p u s g qs ps
  pairs_later w u h g l (x ∷ qs) (y ∷ ps) k =
      ((are_later p w u l (x.0 ∷ []) (y.0 ∷ []) k.0.0, are_later p w u l (x.1 ∷ []) (y.1 ∷ []) k.0.1), pairs_later w u h g l qs ps k.1)
  pairs_later w u h g l [] [] k = tt
  pairs_later w u h g l (x ∷ qs) [] k = absurd k
  pairs_later w u h g l [] (y ∷ ps) k = absurd k

module _ (p : Bare) (Inv : Conf → Type 0) (kept : Kept p Inv) (k : Option Address) (yes : Bool) (s : State) where
  abbrev Found : Option Address → Bool → World → Control → Type 0
  Found tail b to c = c ≡ cond b (Eq tail yes k) (Ret (m.truth (not yes)) k)

  abbrev Goes : Conf → World → Option Address → Bool → Type 0
  Goes from w tail b = Reaches p from w s (Found tail b)

  reach_on : (from mid : Conf) (w u : World) (n : ℕ) (tail : Option Address) (b : Bool) → Walks (M p) Any n from mid → Later w u → Goes mid u tail b → Goes from w tail b
  reach_on from mid w u n tail b v l h = record {
    steps = n + h.steps;
    to = h.to;
    control = h.control;
    walk = walks_on (M p) Any n h.steps from mid (conf h.control s h.to) v h.walk;
    later = later_trans w u h.to l h.later;
    holds = h.holds;
    is = h.is;
  }

  -- for lists of at most this size
  abbrev Smaller : ℕ → Type 0
  Smaller n =
      (qs : List (Term × Term)) (ps : List (Value × Value)) (start tail : Option Address) (w : World) (h : Holds p w s) → pairs_size qs ≤ n → PairsAre p w s h qs ps → Chain w.store start ps tail → Inv (conf (Eq start yes k) s w) → Goes (conf (Eq start yes k) s w) w tail (pairs_equal qs)

  by_verdict_goes : (n : ℕ) → Smaller n → (u x : Term) (qs : List (Term × Term)) (ps : List (Value × Value)) (c : Control) (next tail : Option Address) (w : World) (h : Holds p w s) (v : Verdict Value) → step p (memory s w) c ≡ by_verdict (memory s w) v next yes k → Tells p w s h (size u) (equal u x) v → pairs_size ((u, x) ∷ qs) ≤ suc n → PairsAre p w s h qs ps → Chain w.store next ps tail → Inv (conf c s w) → Goes (conf c s w) w tail (pairs_equal ((u, x) ∷ qs))
  by_verdict_goes n rec u x qs ps c next tail w h Equal e told few pairs chain inv =
      let moves = step_is p c s w _ e in
      subst (Goes (conf c s w) w tail) (sym (ap (λ q. q && pairs_equal qs) told)) (reach_on (conf c s w) (conf (Eq next yes k) s w) w w 1 tail (pairs_equal qs) (one_step p _ _ moves) (later_refl w) (rec qs ps next tail w h (let q = size_some u in omega (arith, few, q)) pairs chain (kept.step _ _ inv moves)))
  by_verdict_goes n rec u x qs ps c next tail w h Unequal e told few pairs chain inv =
      let moves = step_is p c s w _ e in
      subst (Goes (conf c s w) w tail) (sym (ap (λ q. q && pairs_equal qs) told)) (record {
        steps = 1;
        to = w;
        control = Ret (m.truth (not yes)) k;
        walk = one_step p _ _ moves;
        later = later_refl w;
        holds = h;
        is = refl;
      })
  by_verdict_goes n rec u x qs ps c next tail w h (AsPairs parts) e told few pairs chain inv =
      let pended = pend parts next (length w.store) in
      let w2 : World = with_blocks w pended.0 in
      let moves = step_is p c s w (making_all (memory s w) pended.0 (Eq pended.1 yes k)) e in
      let l : Later w w2 = more_later p w pended.0 in
      let h2 : Holds p w2 s = more_holds p w pended.0 s h in
      let next_inv : Inv (conf (Eq pended.1 yes k) s w2) = kept.step (conf c s w) (conf (Eq pended.1 yes k) s w2) inv moves in
      let inner = rec told.0 parts pended.1 next w2 h2 (let q = told.3 in omega (arith, few, q)) (pairs_later p s w w2 h h2 l told.0 parts told.2) (pend_chain w.store parts next) next_inv in
      subst (λ b. Goes (conf c s w) w tail (b && pairs_equal qs)) (sym told.1) (reach_on (conf c s w) (conf (Eq pended.1 yes k) s w2) w w2 1 tail _ (one_step p _ _ moves) l (go (pairs_equal told.0) (conf (Eq pended.1 yes k) s w2) w2 l next_inv inner))
    where
      go : (b : Bool) (from : Conf) (w2 : World) → Later w w2 → Inv from → Goes from w2 next b → Goes from w2 tail (b && pairs_equal qs)
      go true from w2 l fv r =
          let here : Walks (M p) Any r.steps from (conf (Eq next yes k) s r.to) = subst (λ c. Walks (M p) Any r.steps from (conf c s r.to)) r.is r.walk in
          let far : Later w r.to = later_trans w w2 r.to l r.later in
          reach_on from (conf (Eq next yes k) s r.to) w2 r.to r.steps tail (pairs_equal qs) here r.later (rec qs ps next tail r.to r.holds (let q = size_some u in omega (arith, few, q)) (pairs_later p s w r.to h r.holds far qs ps pairs) (chain_later w r.to far next ps tail chain) (inv_walk p Inv kept.step r.steps from (conf (Eq next yes k) s r.to) here fv))
      go false from w2 l fv r = r

  pairs_follow : (n : ℕ) → Smaller n
  pairs_follow n [] [] start tail w h few pairs chain inv = record {
    steps = 0;
    to = w;
    control = Eq start yes k;
    walk = stay (conf (Eq start yes k) s w);
    later = later_refl w;
    holds = h;
    is = ap (λ o. Eq o yes k) chain;
  }
  pairs_follow n [] (y ∷ ps) start tail w h few pairs chain inv = absurd pairs
  pairs_follow n (x ∷ qs) [] start tail w h few pairs chain inv = absurd pairs
  pairs_follow zero (x ∷ qs) (y ∷ ps) start tail w h few pairs chain inv = absurd (let z = size_some x.0 in omega (arith, few, z))
  pairs_follow (suc n) (x ∷ qs) (y ∷ ps) start tail w h few pairs chain inv =
      let c : Control = Eq start yes k in
      let next : Option Address = chain.1 in
      let is : step p (memory s w) c ≡ by_verdict (memory s w) (turn (mb.see p.texts w.store) y.0 y.1) next yes k = ap (λ o. step p (memory s w) (Eq o yes k)) chain.2 ∙ ap (λ o. compare p (memory s w) o yes k) chain.3 in
      by_verdict_goes n (pairs_follow n) x.0 x.1 qs ps c next tail w h _ is (tells p w s h x.0 x.1 y.0 y.1 pairs.0.0 pairs.0.1) few pairs.1 chain.4 inv

-- ---- The basic values `=` and `<>`

module _ (p : Bare) (Inv : Conf → Type 0) (kept : Kept p Inv) (k : Option Address) (need : ℕ) (c : Control) (s : State) (w : World) (holds : Holds p w s) (inv : Inv (conf c s w)) (yes : Bool) where
  abbrev Answer : Bool → Type 0
  Answer e = Follows p (Back p k) k need (conf c s w) w (Gives (basic.truth (cond e yes (not yes))) s)

  -- from the end of the pairs
  answered : (b : Bool) (w2 : World) (n : ℕ) → Walks (M p) Any n (conf c s w) (conf (cond b (Eq None yes k) (Ret (m.truth (not yes)) k)) s w2) → Later w w2 → Holds p w2 s → Answer b
  answered true w2 n v l h =
      walk_on p (Back p k) k need need n (conf c s w) (conf (Eq None yes k) s w2) w w2 (Gives (basic.truth yes) s) v l (omega arith) (step_on p (Back p k) k need need (conf (Eq None yes k) s w2) (conf (Ret (m.truth yes) k) s w2) w2 w2 (Gives (basic.truth yes) s) (step_is p (Eq None yes k) s w2 (going (memory s w2) (Ret (m.truth yes) k)) refl) (later_refl w2) (omega arith) (here p (Back p k) k need (Ret (m.truth yes) k) s w2 (basic.truth yes) h (m.truth yes, refl, r.tag (cond yes 1 0) [] [] r.done)))
  answered false w2 n v l h =
      walk_on p (Back p k) k need need n (conf c s w) (conf (Ret (m.truth (not yes)) k) s w2) w w2 (Gives (basic.truth (not yes)) s) v l (omega arith) (here p (Back p k) k need (Ret (m.truth (not yes)) k) s w2 (basic.truth (not yes)) h (m.truth (not yes), refl, r.tag (cond (not yes) 1 0) [] [] r.done))

  at_once_answered : (e : Bool) → step p (memory s w) c ≡ going (memory s w) (Ret (m.truth (cond e yes (not yes))) k) → Answer e
  at_once_answered e g =
      step_on p (Back p k) k need need (conf c s w) (conf (Ret (m.truth (cond e yes (not yes))) k) s w) w w (Gives (basic.truth (cond e yes (not yes))) s) (step_is p c s w _ g) (later_refl w) (omega arith) (here p (Back p k) k need (Ret (m.truth (cond e yes (not yes))) k) s w (basic.truth (cond e yes (not yes))) holds (m.truth (cond e yes (not yes)), refl, r.tag (cond (cond e yes (not yes)) 1 0) [] [] r.done))

  shallow : (e : Bool) (n : ℕ) (v : Verdict Value) → NoPairs v → Tells p w s holds n e v → step p (memory s w) c ≡ going (memory s w) (Ret (m.truth (decided v yes)) k) → Answer e
  shallow e n Equal once told g = subst Answer (sym told) (at_once_answered true g)
  shallow e n Unequal once told g = subst Answer (sym told) (at_once_answered false g)
  shallow e n (AsPairs parts) once told g = absurd once

  abbrev seen : Value → Seen Value
  seen = mb.see p.texts w.store

  pub two_follow : (u x : Term) (v y : Value) → Is p w u v → Is p w x y → step p (memory s w) c ≡ carry (memory s w) k (equals seen v y yes) → Answer (equal u x)
  two_follow u x v y i j e = go (is_deep (seen v) (seen y)) refl (tells p w s holds u x v y i j)
    where
      begun : (deep : Bool) → is_deep (seen v) (seen y) ≡ deep → step p (memory s w) c ≡ cond deep (making (memory s w) (Pending v y None) (λ a. Eq (Some a) yes k)) (going (memory s w) (Ret (m.truth (decided (turn seen v y) yes)) k))
      begun true g = e ∙ ap (λ q. carry (memory s w) k (cond q (Compares v y yes) (Comes (dat.truth (decided (turn seen v y) yes))))) g
      begun false g = e ∙ ap (λ q. carry (memory s w) k (cond q (Compares v y yes) (Comes (dat.truth (decided (turn seen v y) yes))))) g

      go : (deep : Bool) → is_deep (seen v) (seen y) ≡ deep → Tells p w s holds (size u) (equal u x) (turn seen v y) → Answer (equal u x)
      go false g told = shallow (equal u x) (size u) (turn seen v y) (no_pairs (seen v) (seen y) g) told (begun false g)
      go true g told =
          let w2 : World = with_blocks w (Pending v y None ∷ []) in
          let l : Later w w2 = more_later p w (Pending v y None ∷ []) in
          let h2 : Holds p w2 s = more_holds p w (Pending v y None ∷ []) s holds in
          let c2 : Control = Eq (Some (length w.store)) yes k in
          let moves = step_is p c s w (making (memory s w) (Pending v y None) (λ a. Eq (Some a) yes k)) (begun true g) in
          let found = pairs_follow p Inv kept k yes s (pairs_size ((u, x) ∷ [])) ((u, x) ∷ []) ((v, y) ∷ []) (Some (length w.store)) None w2 h2 (omega arith) ((are_later p w w2 l (u ∷ []) (v ∷ []) i, are_later p w w2 l (x ∷ []) (y ∷ []) j), tt) (length w.store, None, refl, get_last w.store (Pending v y None), refl) (kept.step _ _ inv moves) in
          let all : Walks (M p) Any (1 + found.steps) (conf c s w) (conf found.control s found.to) = walks_on (M p) Any 1 found.steps (conf c s w) (conf c2 s w2) (conf found.control s found.to) (one_step p _ _ moves) found.walk in
          subst Answer (and_true (equal u x)) (answered (equal u x && true) found.to (1 + found.steps) (subst (λ z. Walks (M p) Any (1 + found.steps) (conf c s w) (conf z s found.to)) found.is all) (later_trans w w2 found.to l found.later) found.holds)
