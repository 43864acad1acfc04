-- How the store of closures lies in the store of frames.
use Rattle.std.proofs.Common.{map, slice_get, ◌≡◌, ◌≢◌, ℕ, zero, suc, ◌+◌, ◌<◌, List, [], ◌∷◌, ◌++◌, length, Some, ◌⊎◌, inl, inr, refl, sym, ap, ◌∙◌, subst, arith, ⊎_elim}
use Rattle.std.proofs.lemmas.Option.{slice_get_within}
use Rattle.smlc_base.specs.declared.point.Point.{Point}
use Rattle.simulation.specs.Blocks.{Closure, ClassRecord, SpillRecord, Block, IsAmong, StandsAt, AreOfOneSort, IsCounted}
use Rattle.simulation.specs.Keeps.{IsNamedBy, AllNamed, HasTidyReach}
use Rattle.simulation.proofs.Heaps.{IsUncounted, straight, by_code, IsHeapMap, with_image, with_same, with_other, stands_map, stands_of}
use Rattle.simulation.proofs.Items.{Led, led, by_fields, StandsFor, heap_of_items}
use Rattle.simulation.proofs.Lists.{some_eq, get_append, get_last, get_past, get_split, among_one}
use Rattle.simulation.proofs.Tidy.{tidy_reach}
use Rattle.pass_example.specs.Frames.{Held, held, held_block, outer, inner}
use Rattle.pass_example.specs.Closures.{Thing, Class, Code, thing_block}

abbrev pub IsCode : List Thing → ℕ → Type 0
IsCode things d = (c : ℕ) × (slice_get things d ≡ Some (Code c))

-- these closures stand for these frames
abbrev pub StandFor : (ℕ → ℕ) → List Thing → List ℕ → List ℕ → Type 0
StandFor f things codes under = (d : ℕ) → IsAmong d codes → IsCode things d × IsAmong (f d) under

-- What stands at b. A closure stands for an inner frame: what its class record holds stands for what the outer frame holds.
pub data IsThing (f : ℕ → ℕ) (frames : List Held) (things : List Thing) : ℕ → Thing → Type 0 where
  class : (b : ℕ) (below : List ℕ) → slice_get things (suc b) ≡ Some (Code b) → ((d : ℕ) → IsAmong d below → IsCode things d) → IsThing f frames things b (Class below)
  code : (b c o : ℕ) (below under : List ℕ) → slice_get things c ≡ Some (Class below) → slice_get frames (f b) ≡ Some (held inner (o ∷ [])) → slice_get frames o ≡ Some (held outer under) → StandFor f things below under → IsThing f frames things b (Code c)

pub record Heap (f : ℕ → ℕ) (frames : List Held) (things : List Thing) : Type 0 where
  pub thing : (b : ℕ) (x : Thing) → slice_get things b ≡ Some x → IsThing f frames things b x
  pub apart : (a b c d : ℕ) → slice_get things a ≡ Some (Code c) → slice_get things b ≡ Some (Code d) → f a ≡ f b → a ≡ b

-- ---- The map between the memories

code_counted : (c : ℕ) → IsCounted (thing_block (Code c))
code_counted c = inr (inner, inl refl, inl refl)

class_uncounted : (below : List ℕ) → IsUncounted (thing_block (Class below))
class_uncounted below (inl h) = let e = h.0 in cc
class_uncounted below (inr h) = h.1

pub at_code : (things : List Thing) (d c : ℕ) → slice_get things d ≡ Some (Code c) → (x : Block) → StandsAt (map thing_block things) d x → IsCounted x
at_code things d c e x s =
    let p = stands_map thing_block things d x s in
    let g : Some p.0 ≡ Some (Code c) = sym p.1 ∙ e in
    let k : p.0 ≡ Code c = cc in
    subst IsCounted (ap thing_block (sym k) ∙ p.2) (code_counted c)

-- what a closure names leads along the fields of its frame: by its class record, and through the outer frame
code_led : (f : ℕ → ℕ) (frames : List Held) (things : List Thing) (b c o : ℕ) (below under : List ℕ) → slice_get things c ≡ Some (Class below) → slice_get frames o ≡ Some (held outer under) → StandFor f things below under → Led (map thing_block things) (map held_block frames) f (o ∷ []) c
code_led f frames things b c o below under e g st =
    by_fields c (thing_block (Class below)) (stands_of thing_block things c (Class below) e) (class_uncounted below) (λ d m.
    let r = st d m in
    led d (at_code things d r.0.0 r.0.1) (by_code (o ∷ []) o (f d) (held_block (held outer under)) (inl refl) (stands_of held_block frames o (held outer under) g) (λ k. cc) (straight under (f d) r.1)))

pub heap_map : (f : ℕ → ℕ) (frames : List Held) (things : List Thing) → Heap f frames things → IsHeapMap (map thing_block things) (map held_block frames) f
heap_map f frames things h = heap_of_items thing_block held_block f things frames (record {
  item = λ a x e c. item a x (h.thing a x e) c;
  apart = λ a b x y e g s q. apart a b x y e g s q;
  outside = λ a i x e u m. outside a i x (h.thing a x e) u m;
})
  where
    item : (a : ℕ) (x : Thing) → IsThing f frames things a x → IsCounted (thing_block x) → (y : Held) × (slice_get frames (f a) ≡ Some y) × StandsFor thing_block held_block f things frames x y
    item a x (class b below n k) c = absurd (class_uncounted below c)
    item a x (code b c o below under e g k s) q = (
      held inner (o ∷ []),
      g,
      record {
        like = record { datum = λ d. cc; points = λ p m. m };
        leads = λ i m.
            let j : i ≡ c = among_one i c m in
            (subst (λ t. t < length things) (sym j) (slice_get_within things c (Class below) e), subst (λ t. Led (map thing_block things) (map held_block frames) f (o ∷ []) t) (sym j) (code_led f frames things b c o below under e k s));
      },
    )

    apart : (a b : ℕ) (x y : Thing) → slice_get things a ≡ Some x → slice_get things b ≡ Some y → AreOfOneSort (thing_block x) (thing_block y) → f a ≡ f b → a ≡ b
    apart a b (Class u) y e g (inl s) q = absurd (let t = s.0 in cc)
    apart a b (Class u) y e g (inr s) q = absurd s.1
    apart a b (Code u) (Class v) e g (inl s) q = absurd (let t = s.0 in cc)
    apart a b (Code u) (Class v) e g (inr s) q = absurd s.2
    apart a b (Code u) (Code v) e g s q = h.apart a b u v e g q

    outside : (a i : ℕ) (x : Thing) → IsThing f frames things a x → IsUncounted (thing_block x) → IsAmong i (thing_block x).fields → i < length things
    outside a i x (class b below n k) u m = let r = k i m in slice_get_within things i (Code r.0) r.1
    outside a i x (code b c o below under e g k s) u m = absurd (u (code_counted c))

-- ---- Class records are in order

pub heap_named : (f : ℕ → ℕ) (frames : List Held) (things : List Thing) → Heap f frames things → AllNamed (map thing_block things)
heap_named f frames things h a x s k =
    let p = stands_map thing_block things a x s in
    by p.0 (h.thing a p.0 p.1) (ap (λ t. t.kind) p.2 ∙ k)
  where
    by : (y : Thing) → IsThing f frames things a y → (thing_block y).kind ≡ ClassRecord → (c : ℕ) × (a < c) × IsNamedBy (map thing_block things) a c
    by y (class b below n q) e = (suc a, omega arith, record { block = thing_block (Code a); point = inner; stands = stands_of thing_block things (suc a) (Code a) n; closure = refl; names = inl refl })
    by y (code b c o below under e g q t) e' = absurd (cc)

pub heap_tidy : (f : ℕ → ℕ) (frames : List Held) (things : List Thing) (roots : List ℕ) → Heap f frames things → ((d : ℕ) → IsAmong d roots → IsCode things d) → HasTidyReach (map thing_block things) roots
heap_tidy f frames things roots h r = tidy_reach (map thing_block things) roots
    (λ a x i s e. let c = r a i in is_no_class a x c s e)
    (λ a b x y s m t e.
    let p = stands_map thing_block things a x s in
    subst (λ z. (q : Point) × (z.kind ≡ Closure q)) p.2 (names a b p.0 y (h.thing a p.0 p.1) (subst (λ z. IsAmong b z.fields) (sym p.2) m) t e))
    (λ a x s. let p = stands_map thing_block things a x s in subst (λ z. z.kind ≢ SpillRecord) p.2 (no_spill p.0))
  where
    is_no_class : (a : ℕ) (x : Block) → IsCode things a → StandsAt (map thing_block things) a x → x.kind ≢ ClassRecord
    is_no_class a x c s e =
        let p = stands_map thing_block things a x s in
        let g : Some p.0 ≡ Some (Code c.0) = sym p.1 ∙ c.1 in
        let k : p.0 ≡ Code c.0 = cc in
        let t : Closure inner ≡ ClassRecord = ap (λ u. (thing_block u).kind) (sym k) ∙ ap (λ u. u.kind) p.2 ∙ e in
        cc

    no_spill : (x : Thing) → (thing_block x).kind ≢ SpillRecord
    no_spill (Class below) e = cc
    no_spill (Code c) e = cc

    names : (a b : ℕ) (x : Thing) (y : Block) → IsThing f frames things a x → IsAmong b (thing_block x).fields → StandsAt (map thing_block things) b y → y.kind ≡ ClassRecord → (q : Point) × ((thing_block x).kind ≡ Closure q)
    names a b x y (class c below n k) m t e = absurd (is_no_class b y (k b m) t e)
    names a b x y (code c d o below under e g k s) m t e' = (inner, refl)

-- ---- Both stores grow

-- the map stays on what stands, and so does what stands
pub record Later (f f' : ℕ → ℕ) (frames frames' : List Held) (things things' : List Thing) : Type 0 where
  pub agrees : (a : ℕ) → a < length things → f' a ≡ f a
  pub frames_stay : (a : ℕ) (x : Held) → slice_get frames a ≡ Some x → slice_get frames' a ≡ Some x
  pub things_stay : (a : ℕ) (x : Thing) → slice_get things a ≡ Some x → slice_get things' a ≡ Some x

pub stand_later : (f f' : ℕ → ℕ) (frames frames' : List Held) (things things' : List Thing) (codes under : List ℕ) → Later f f' frames frames' things things' → StandFor f things codes under → StandFor f' things' codes under
stand_later f f' frames frames' things things' codes under l s d m =
    let r = s d m in
    ((r.0.0, l.things_stay d (Code r.0.0) r.0.1), subst (λ t. IsAmong t under) (sym (l.agrees d (slice_get_within things d (Code r.0.0) r.0.1))) r.1)

pub thing_later : (f f' : ℕ → ℕ) (frames frames' : List Held) (things things' : List Thing) (b : ℕ) (x : Thing) → Later f f' frames frames' things things' → b < length things → IsThing f frames things b x → IsThing f' frames' things' b x
thing_later f f' frames frames' things things' b x l w (class b' below n k) =
    class b below (l.things_stay (suc b) (Code b) n) (λ d m. let r = k d m in (r.0, l.things_stay d (Code r.0) r.1))
thing_later f f' frames frames' things things' b x l w (code b' c o below under e g k s) =
    code b c o below under (l.things_stay c (Class below) e) (ap (slice_get frames') (l.agrees b w) ∙ l.frames_stay (f b) (held inner (o ∷ [])) g) (l.frames_stay o (held outer under) k) (stand_later f f' frames frames' things things' below under l s)

-- more frames alone
pub heap_frames : (f : ℕ → ℕ) (frames more : List Held) (things : List Thing) → Heap f frames things → Heap f (frames ++ more) things
heap_frames f frames more things h = record {
  thing = λ b x e. thing_later f f frames (frames ++ more) things things b x (record { agrees = λ a l. refl; frames_stay = λ a x g. get_append frames more a x g; things_stay = λ a x g. g }) (slice_get_within things b x e) (h.thing b x e);
  apart = h.apart;
}

-- An inner frame on the outer one at o, and a class record with its closure.
module _ (f : ℕ → ℕ) (frames : List Held) (things : List Thing) (o : ℕ) (last under : List ℕ) (h : Heap f frames things) (at_o : slice_get frames o ≡ Some (held outer under)) (s : StandFor f things last under) where
  abbrev pub more_frames : List Held
  more_frames = frames ++ held inner (o ∷ []) ∷ []

  abbrev pub more_things : List Thing
  more_things = things ++ Class last ∷ Code (length things) ∷ []

  abbrev pub more_f : ℕ → ℕ
  more_f = with_image f (suc (length things)) (length frames)

  new_class : slice_get more_things (length things) ≡ Some (Class last)
  new_class = subst (λ i. slice_get more_things i ≡ Some (Class last)) (let e : length things + 0 ≡ length things = omega arith in e) (get_past things (Class last ∷ Code (length things) ∷ []) 0)

  new_code : slice_get more_things (suc (length things)) ≡ Some (Code (length things))
  new_code = subst (λ i. slice_get more_things i ≡ Some (Code (length things))) (let e : length things + 1 ≡ suc (length things) = omega arith in e) (get_past things (Class last ∷ Code (length things) ∷ []) 1)

  later : Later f more_f frames more_frames things more_things
  later = record {
    agrees = λ a l. with_other f (suc (length things)) (length frames) a (λ e. let g : a ≡ suc (length things) = e in absurd (omega arith));
    frames_stay = λ a x e. get_append frames (held inner (o ∷ []) ∷ []) a x e;
    things_stay = λ a x e. get_append things (Class last ∷ Code (length things) ∷ []) a x e;
  }

  pub new_stands : StandFor more_f more_things (suc (length things) ∷ []) (length frames ∷ [])
  new_stands d m =
      let e : d ≡ suc (length things) = among_one d (suc (length things)) m in
      ((length things, subst (λ i. slice_get more_things i ≡ Some (Code (length things))) (sym e) new_code), inl (ap more_f e ∙ with_same f (suc (length things)) (length frames)))

  is_class : IsThing more_f more_frames more_things (length things) (Class last)
  is_class = class (length things) last new_code (λ d m. let r = s d m in (r.0.0, get_append things (Class last ∷ Code (length things) ∷ []) d (Code r.0.0) r.0.1))

  is_code : IsThing more_f more_frames more_things (suc (length things)) (Code (length things))
  is_code = code (suc (length things)) (length things) o last under new_class (ap (slice_get more_frames) (with_same f (suc (length things)) (length frames)) ∙ get_last frames (held inner (o ∷ []))) (get_append frames (held inner (o ∷ []) ∷ []) o (held outer under) at_o) (stand_later f more_f frames more_frames things more_things last under later s)

  new_thing : (c b : ℕ) (x : Thing) → b ≡ length things + c → slice_get (Class last ∷ Code (length things) ∷ []) c ≡ Some x → IsThing more_f more_frames more_things b x
  new_thing zero b x e g =
      some_eq (IsThing more_f more_frames more_things b) (Class last) x g (subst (λ i. IsThing more_f more_frames more_things i (Class last)) (let q : length things ≡ b = omega arith in q) is_class)
  new_thing (suc zero) b x e g =
      some_eq (IsThing more_f more_frames more_things b) (Code (length things)) x g (subst (λ i. IsThing more_f more_frames more_things i (Code (length things))) (let q : suc (length things) ≡ b = omega arith in q) is_code)
  new_thing (suc (suc c)) b x e g = absurd (cc)

  -- the frame of an old closure is old
  old_frame : (a c : ℕ) → slice_get things a ≡ Some (Code c) → f a < length frames
  old_frame a c e = by (Code c) (h.thing a (Code c) e) refl
    where
      by : (x : Thing) → IsThing f frames things a x → x ≡ Code c → f a < length frames
      by x (class b below n k) g = absurd (cc)
      by x (code b d p below up e' g' k t) g = slice_get_within frames (f a) (held inner (p ∷ [])) g'

  -- a closure is old, or the new one
  code_cases : (a c : ℕ) → slice_get more_things a ≡ Some (Code c) → (slice_get things a ≡ Some (Code c)) ⊎ (a ≡ suc (length things))
  code_cases a c e =
      ⊎_elim (λ (g : slice_get things a ≡ Some (Code c)). inl g)
      (λ (g : (d : ℕ) × (a ≡ length things + d) × (slice_get (Class last ∷ Code (length things) ∷ []) d ≡ Some (Code c))). inr (by g.0 g.1 g.2))
      (get_split things (Class last ∷ Code (length things) ∷ []) a (Code c) e)
    where
      by : (d : ℕ) → a ≡ length things + d → slice_get (Class last ∷ Code (length things) ∷ []) d ≡ Some (Code c) → a ≡ suc (length things)
      by zero q g = absurd (let t : Some (Class last) ≡ Some (Code c) = g in cc)
      by (suc zero) q g = omega arith
      by (suc (suc d)) q g = absurd (cc)

  pub heap_more : Heap more_f more_frames more_things
  heap_more = record {
    thing = λ b x e. ⊎_elim
        (λ (g : slice_get things b ≡ Some x). thing_later f more_f frames more_frames things more_things b x later (slice_get_within things b x g) (h.thing b x g))
        (λ (g : (c : ℕ) × (b ≡ length things + c) × (slice_get (Class last ∷ Code (length things) ∷ []) c ≡ Some x)). new_thing g.0 b x g.1 g.2)
        (get_split things (Class last ∷ Code (length things) ∷ []) b x e);
    apart = λ a b c d e g q. ⊎_elim
        (λ (u : slice_get things a ≡ Some (Code c)). ⊎_elim
        (λ (v : slice_get things b ≡ Some (Code d)). h.apart a b c d u v (sym (old_image a c u) ∙ q ∙ old_image b d v))
        (λ (v : b ≡ suc (length things)). absurd (new_apart a c u (sym (ap more_f v ∙ with_same f (suc (length things)) (length frames)) ∙ sym q ∙ old_image a c u)))
        (code_cases b d g))
        (λ (u : a ≡ suc (length things)). ⊎_elim
        (λ (v : slice_get things b ≡ Some (Code d)). absurd (new_apart b d v (sym (ap more_f u ∙ with_same f (suc (length things)) (length frames)) ∙ q ∙ old_image b d v)))
        (λ (v : b ≡ suc (length things)). u ∙ sym v)
        (code_cases b d g))
        (code_cases a c e);
  }
    where
      old_image : (a c : ℕ) → slice_get things a ≡ Some (Code c) → more_f a ≡ f a
      old_image a c e = later.agrees a (slice_get_within things a (Code c) e)

      new_apart : (a c : ℕ) → slice_get things a ≡ Some (Code c) → length frames ≡ f a → ⊥
      new_apart a c e q = let l = old_frame a c e in absurd (omega arith)
