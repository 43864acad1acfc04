-- A home gets a word, and nothing else changes.
use Rattle.std.specs.Prelude.{ℤ, pos}
use Rattle.std.specs.Ordering.{int_eq}
use Rattle.std.proofs.Common.{◌≡◌, ◌≢◌, ℕ, zero, suc, ◌+◌, ◌<◌, ◌≤◌, List, [], ◌∷◌, ◌++◌, set, length, replicate, Option, Some, None, slice_get, cond, ◌⊎◌, inl, inr, refl, sym, ap, ◌∙◌, subst, arith, ⊎_elim}
use Rattle.std.proofs.lemmas.List.{length-replicate}
use Rattle.std.proofs.lemmas.Option.{slice_get_within}
use Rattle.smlc_base.specs.declared.point.Point.{Point}
use Rattle.simulation.specs.Blocks.{IsAmong}
use Rattle.simulation.specs.Stores.{acted, puts}
use Rattle.simulation.proofs.Stores.{puts_done}
use Rattle.simulation.proofs.Lists.{option_cases, get_append, get_split, get_past, get_below, get_set_same, get_set_other, length_set}
use Rattle.sml_def.specs.Maybe.{◌>>=◌}
use Rattle.closure_ir.specs.declared.operand.Shape.TheVariants as shape
use Rattle.closure_ir.specs.Words.{Word, Num, Made, Cell, Vars}
use Rattle.closure_ir.specs.Step.{bound}
use Rattle.placed_ir.specs.declared.home.Home.{Home}
use Rattle.placed_ir.specs.declared.home.Home.TheVariants as spot
use Rattle.placed_ir.specs.Code.{Code}
use Rattle.placed_ir.specs.Arena.{Slot, Held, Spilled, Filler, words_in, word_in, frame_words, home_word, Registers, with_register, with_frame, new_frame, view_slot}
use Rattle.placed_ir.specs.Step.{Running, Facing, Store, Goes, spills_word, puts_home}
use Rattle.place_laws.specs.Place.{Places, home_spills, home_of, at_place}
use Rattle.place_laws.specs.Lies.{Same, none_same, more_same, Lies, Heap}
use Rattle.place_laws.proofs.Heap.{filler_get, IsAt, is_at}
use Rattle.place_laws.proofs.Places.{eq_true, eq_false, eq_or_not, apart_cases, homes_apart}
use Rattle.place_laws.proofs.Reading.{Fits}

-- the frame has n words at least
abbrev pub FrameFits : List Slot → Option ℕ → ℕ → Type 0
FrameFits slots frame n = (n ≡ 0) ⊎ ((a : ℕ) × (ws : List Word) × (frame ≡ Some a) × (slice_get slots a ≡ Some (Spilled ws)) × (n ≤ length ws))

pub frame_fewer : (slots : List Slot) (frame : Option ℕ) (m n : ℕ) → m ≤ n → FrameFits slots frame n → FrameFits slots frame m
frame_fewer slots frame m n l (inl e) = inl (omega arith)
frame_fewer slots frame m n l (inr f) = inr (f.0, f.1, f.2, f.3, let k = f.4 in omega arith)

-- blocks stay
abbrev pub BlocksStay : List Slot → List Slot → Type 0
BlocksStay old new = (w : ℕ) (d : Cell) → slice_get old w ≡ Some (Held d) → slice_get new w ≡ Some (Held d)

pub record Putting (points : List Point) (input : List ℕ) (c : Code) (slots : List Slot) (r : Registers) (home : Home) (w : Word) : Type 0 where
  pub registers : Registers
  pub after : List Slot
  pub step : (out : List ℕ) → acted (view_slot points) out slots (puts_home (record { slots = slots; input = input }) c r home w) ≡ Some (record { control = record { doing = Running c registers; input = input }; out = out; store = after })
  pub is : home_word after registers home ≡ Some w
  pub others : (other : Home) → other ≢ home → home_word after registers other ≡ home_word slots r other
  pub on : BlocksStay slots after
  pub back : BlocksStay after slots
  pub frame : (n : ℕ) → FrameFits slots r.frame n → FrameFits after registers.frame n
  pub handler : registers.handler ≡ r.handler
  pub base : registers.base ≡ r.base

put_register : (points : List Point) (input : List ℕ) (c : Code) (slots : List Slot) (r : Registers) (k : ℕ) (w : Word) → Putting points input c slots r (spot.Register k) w
put_register points input c slots r k w = record {
  registers = with_register r k w;
  after = slots;
  step = λ out. refl;
  is = ap (λ b. cond b (Some w) (r.file k)) (eq_true k k refl);
  others = others;
  on = λ v d e. e;
  back = λ v d e. e;
  frame = λ n f. f;
  handler = refl;
  base = refl;
}
  where
    others : (other : Home) → other ≢ spot.Register k → home_word slots (with_register r k w) other ≡ home_word slots r other
    others (spot.Register j) n = ap (λ b. cond b (Some w) (r.file j)) (eq_false j k (λ e. n (ap spot.Register e)))
    others (spot.Spill i) n = refl

module _ (points : List Point) (input : List ℕ) (c : Code) (slots : List Slot) (r : Registers) (i : ℕ) (w : Word) (a : ℕ) (ws : List Word) (fe : r.frame ≡ Some a) (at : slice_get slots a ≡ Some (Spilled ws)) (l : i < length ws) where
  abbrev Changed : List Slot
  Changed = set slots a (Spilled (set ws i w))

  abbrev M : Store
  M = record { slots = slots; input = input }

  abbrev Spilling : Goes
  Spilling = puts (record { doing = Running c r; input = input }) a (Spilled (set ws i w))

  spill_act : (old : Word) → slice_get ws i ≡ Some old → puts_home M c r (spot.Spill i) w ≡ Spilling
  spill_act old e =
      ap (λ (o : Option ℕ). o >>= (λ b. words_in (slice_get slots b) >>= (λ us. spills_word M c r i w b us))) fe
      ∙ ap (λ (o : Option Slot). words_in o >>= (λ us. spills_word M c r i w a us)) at
      ∙ ap (λ (o : Option Word). o >>= (λ old. Spilling)) e

  now_frame : frame_words Changed r.frame ≡ Some (set ws i w)
  now_frame = ap (frame_words Changed) fe ∙ ap words_in (get_set_same slots a (Spilled (set ws i w)) (Spilled ws) at)

  old_frame : frame_words slots r.frame ≡ Some ws
  old_frame = ap (frame_words slots) fe ∙ ap words_in at

  stays : BlocksStay slots Changed
  stays v d e =
      ⊎_elim
      (λ (q : v ≡ a). absurd (let t : Some (Held d) ≡ Some (Spilled ws) = sym e ∙ ap (slice_get slots) q ∙ at in cc))
      (λ (q : v ≢ a). get_set_other slots a (Spilled (set ws i w)) v q ∙ e)
      (eq_or_not v a)

  stayed : BlocksStay Changed slots
  stayed v d e =
      ⊎_elim
      (λ (q : v ≡ a). absurd (let t : Some (Held d) ≡ Some (Spilled (set ws i w)) = sym e ∙ ap (slice_get Changed) q ∙ get_set_same slots a (Spilled (set ws i w)) (Spilled ws) at in cc))
      (λ (q : v ≢ a). sym (get_set_other slots a (Spilled (set ws i w)) v q) ∙ e)
      (eq_or_not v a)

  frame_stays : (n : ℕ) → FrameFits slots r.frame n → FrameFits Changed r.frame n
  frame_stays n (inl e) = inl e
  frame_stays n (inr f) =
      let k : Some f.0 ≡ Some a = sym f.2 ∙ fe in
      let j : f.0 ≡ a = cc in
      let g : Some (Spilled f.1) ≡ Some (Spilled ws) = sym f.3 ∙ ap (slice_get slots) j ∙ at in
      let q : f.1 ≡ ws = cc in
      let m : n ≤ length ws = subst (λ (t : List Word). n ≤ length t) q f.4 in
      inr (a, set ws i w, fe, get_set_same slots a (Spilled (set ws i w)) (Spilled ws) at, subst (λ t. n ≤ t) (sym (length_set ws i w)) m)

  spill_others : (other : Home) → other ≢ spot.Spill i → home_word Changed r other ≡ home_word slots r other
  spill_others (spot.Register j) n = refl
  spill_others (spot.Spill j) n =
      ap (λ (o : Option (List Word)). word_in o j) now_frame ∙ get_set_other ws i w j (λ e. n (ap spot.Spill e)) ∙ sym (ap (λ (o : Option (List Word)). word_in o j) old_frame)

  pub put_in_spill : Putting points input c slots r (spot.Spill i) w
  put_in_spill =
      let old = get_below ws i l in
      record {
        registers = r;
        after = Changed;
        step = λ out. ap (acted (view_slot points) out slots) (spill_act old.0 old.1) ∙ puts_done (view_slot points) (record { doing = Running c r; input = input }) out slots a (Spilled ws) (Spilled (set ws i w)) at (eq_true (suc (length ws)) (suc (length (set ws i w))) (ap suc (sym (length_set ws i w))));
        is = ap (λ (o : Option (List Word)). word_in o i) now_frame ∙ get_set_same ws i w old.0 old.1;
        others = spill_others;
        on = stays;
        back = stayed;
        frame = frame_stays;
        handler = refl;
        base = refl;
      }

-- any home that the frame has room for
pub put_in : (points : List Point) (input : List ℕ) (c : Code) (slots : List Slot) (r : Registers) (home : Home) (w : Word) → FrameFits slots r.frame (home_spills home) → Putting points input c slots r home w
put_in points input c slots r (spot.Register k) w f = put_register points input c slots r k w
put_in points input c slots r (spot.Spill i) w (inl e) = absurd (omega arith)
put_in points input c slots r (spot.Spill i) w (inr f) = put_in_spill points input c slots r i w f.0 f.1 f.2 f.3 (let l = f.4 in omega arith)

-- a variable is bound, and no other that is looked at has its place
pub fits_bind : (homes : List ℕ) (points : List Point) (input : List ℕ) (c : Code) (slots : List Slot) (r : Registers) (env : Vars) (at : Places) (vars few : List ℕ) (x p : ℕ) (u w : Word) (put : Putting points input c slots r (home_of p) w) → Same homes u w → ((y : ℕ) → IsAmong y vars → y ≢ x → IsAmong y few × (at y ≢ p)) → Fits homes slots r env at few → Fits homes put.after put.registers (bound env x u) (at_place at x p) vars
fits_bind homes points input c slots r env at vars few x p u w put s free h y m t e =
    ⊎_elim
    (λ (q : y ≡ x).
    let b = eq_true y x q in
    let g : Some u ≡ Some t = sym (ap (λ b. cond b (Some u) (env y)) b) ∙ e in
    let k : u ≡ t = cc in
    (w, ap (λ b. home_word put.after put.registers (home_of (cond b p (at y)))) b ∙ put.is, subst (λ z. Same homes z w) k s))
    (λ (q : y ≢ x).
    let b = eq_false y x q in
    let f = free y m q in
    let o = h y f.0 t (sym (ap (λ b. cond b (Some u) (env y)) b) ∙ e) in
    (o.0, ap (λ b. home_word put.after put.registers (home_of (cond b p (at y)))) b ∙ put.others (home_of (at y)) (homes_apart (at y) p f.1) ∙ o.1, o.2))
    (eq_or_not y x)

-- ---- The arena grows

frame_grown : (slots more : List Slot) (frame : Option ℕ) (ws : List Word) → frame_words slots frame ≡ Some ws → frame_words (slots ++ more) frame ≡ Some ws
frame_grown slots more None ws e = absurd (cc)
frame_grown slots more (Some a) ws e = by (slice_get slots a) refl e
  where
    by : (o : Option Slot) → slice_get slots a ≡ o → words_in o ≡ Some ws → words_in (slice_get (slots ++ more) a) ≡ Some ws
    by None g f = absurd (cc)
    by (Some (Held d)) g f = absurd (cc)
    by (Some Filler) g f = absurd (cc)
    by (Some (Spilled vs)) g f = ap words_in (get_append slots more a (Spilled vs) g) ∙ f

-- the same registers but for the base
abbrev pub AlikeRegisters : Registers → Registers → Type 0
AlikeRegisters r s = (s.file ≡ r.file) × (s.frame ≡ r.frame)

pub home_grown : (slots more : List Slot) (r s : Registers) (home : Home) (v : Word) → AlikeRegisters r s → home_word slots r home ≡ Some v → home_word (slots ++ more) s home ≡ Some v
home_grown slots more r s (spot.Register k) v q e = ap (λ (f : ℕ → Option Word). f k) q.0 ∙ e
home_grown slots more r s (spot.Spill i) v q e =
    ⊎_elim
    (λ (n : frame_words slots r.frame ≡ None). absurd (let t : None ≡ Some v = sym (ap (λ (o : Option (List Word)). word_in o i) n) ∙ e in cc))
    (λ (m : (ws : List Word) × (frame_words slots r.frame ≡ Some ws)).
    ap (λ (o : Option (List Word)). word_in o i) (ap (frame_words (slots ++ more)) q.1 ∙ frame_grown slots more r.frame m.0 m.1) ∙ sym (ap (λ (o : Option (List Word)). word_in o i) m.1) ∙ e)
    (option_cases (frame_words slots r.frame))

pub fits_grown : (homes wide : List ℕ) (slots more : List Slot) (r s : Registers) (env : Vars) (at : Places) (vars : List ℕ) → ((u v : Word) → Same homes u v → Same wide u v) → AlikeRegisters r s → Fits homes slots r env at vars → Fits wide (slots ++ more) s env at vars
fits_grown homes wide slots more r s env at vars widen q h x m u e =
    let p = h x m u e in
    (p.0, home_grown slots more r s (home_of (at x)) p.0 q p.1, widen u p.0 p.2)

pub frame_more : (slots more : List Slot) (frame : Option ℕ) (n : ℕ) → FrameFits slots frame n → FrameFits (slots ++ more) frame n
frame_more slots more frame n (inl e) = inl e
frame_more slots more frame n (inr f) = inr (f.0, f.1, f.2, get_append slots more f.0 (Spilled f.1) f.3, f.4)

-- ---- A spill record is made

pub frame_made : (slots : List Slot) (n : ℕ) → FrameFits (slots ++ new_frame n) (Some (length slots)) n
frame_made slots n =
    inr (length slots, replicate n (Num (pos 0)), refl, ap (slice_get (slots ++ new_frame n)) (let e : length slots ≡ length slots + 0 = omega arith in e) ∙ get_past slots (new_frame n) 0, omega (arith, length-replicate n (Num (pos 0))))

pub frame_blocks : (slots : List Slot) (n : ℕ) → BlocksStay slots (slots ++ new_frame n)
frame_blocks slots n w d e = get_append slots (new_frame n) w (Held d) e

pub frame_blocks_back : (slots : List Slot) (n : ℕ) → BlocksStay (slots ++ new_frame n) slots
frame_blocks_back slots n w d e =
    ⊎_elim (λ (g : slice_get slots w ≡ Some (Held d)). g)
    (λ (g : (j : ℕ) × (w ≡ length slots + j) × (slice_get (new_frame n) j ≡ Some (Held d))). absurd (by g.0 g.2))
    (get_split slots (new_frame n) w (Held d) e)
  where
    by : (j : ℕ) → slice_get (new_frame n) j ≡ Some (Held d) → ⊥
    by zero f = let g : Some (Spilled (replicate n (Num (pos 0)))) ≡ Some (Held d) = f in cc
    by (suc j) f = let g = filler_get n j (Held d) f in cc

-- before it is made nothing stands in it
pub home_started : (slots more : List Slot) (r : Registers) (a : ℕ) (home : Home) (v : Word) → r.frame ≡ None → home_word slots r home ≡ Some v → home_word (slots ++ more) (with_frame r a) home ≡ Some v
home_started slots more r a (spot.Register k) v n e = e
home_started slots more r a (spot.Spill i) v n e = absurd (let t : None ≡ Some v = sym (ap (λ (f : Option ℕ). word_in (frame_words slots f) i) n) ∙ e in cc)

pub fits_started : (homes : List ℕ) (slots more : List Slot) (r : Registers) (a : ℕ) (env : Vars) (at : Places) (vars : List ℕ) → r.frame ≡ None → Fits homes slots r env at vars → Fits homes (slots ++ more) (with_frame r a) env at vars
fits_started homes slots more r a env at vars n h x m u e = let q = h x m u e in (q.0, home_started slots more r a (home_of (at x)) q.0 n q.1, q.2)

-- ---- A cell is set

abbrev pub ref_cell : Word → Cell
ref_cell w = record { sort = Made shape.Cell; fields = w ∷ [] }

module _ (homes : List ℕ) (cells : List Cell) (slots : List Slot) (h : Heap homes cells slots) (a w : ℕ) (e : slice_get homes a ≡ Some w) where
  abbrev At_w : Type 0
  At_w = IsAt homes cells slots a w

  at_w : IsAt homes cells slots a w
  at_w = is_at homes cells slots a w h e

  other_home : (b v : ℕ) → slice_get homes b ≡ Some v → b ≢ a → v ≢ w
  other_home b v f n q = by (apart_cases a b (λ k. n (sym k)))
    where
      by : (a < b) ⊎ (b < a) → ⊥
      by (inl l) = let k = h.rising a b w v l e f in omega arith
      by (inr l) = let k = h.rising b a v w l f e in omega arith

  pub heap_set : (u v : Word) → Same homes u v → Heap homes (set cells a (ref_cell u)) (set slots w (Held (ref_cell v)))
  heap_set u v s = record {
    cell = λ b c f. ⊎_elim
        (λ (q : b ≡ a).
        let g : Some (ref_cell u) ≡ Some c = sym (get_set_same cells a (ref_cell u) at_w.cell at_w.there) ∙ sym (ap (slice_get (set cells a (ref_cell u))) q) ∙ f in
        let k : ref_cell u ≡ c = cc in
        subst (Lies homes (set slots w (Held (ref_cell v))) b) k (record {
          word = w;
          home = ap (slice_get homes) q ∙ e;
          fields = v ∷ [];
          stands = get_set_same slots w (Held (ref_cell v)) (Held (record { sort = at_w.cell.sort; fields = at_w.fields })) at_w.stands;
          same = more_same u v [] [] s none_same;
        }))
        (λ (n : b ≢ a).
        let l = h.cell b c (sym (get_set_other cells a (ref_cell u) b n) ∙ f) in
        record { word = l.word; home = l.home; fields = l.fields; stands = get_set_other slots w (Held (ref_cell v)) l.word (other_home b l.word l.home n) ∙ l.stands; same = l.same })
        (eq_or_not b a);
    only = λ x d f. ⊎_elim
        (λ (q : x ≡ w). (a, e ∙ ap Some (sym q), let l = slice_get_within cells a at_w.cell at_w.there in omega (arith, length_set cells a (ref_cell u))))
        (λ (n : x ≢ w). let o = h.only x d (sym (get_set_other slots w (Held (ref_cell v)) x n) ∙ f) in let l = o.2 in (o.0, o.1, omega (arith, length_set cells a (ref_cell u))))
        (eq_or_not x w);
    rising = h.rising;
    as_long = omega (arith, h.as_long, length_set cells a (ref_cell u));
  }

  frame_other : (v : Word) (frame : Option ℕ) → frame_words (set slots w (Held (ref_cell v))) frame ≡ frame_words slots frame
  frame_other v None = refl
  frame_other v (Some f) =
      ⊎_elim
      (λ (q : f ≡ w).
      ap (λ (o : Option Slot). words_in o) (ap (slice_get (set slots w (Held (ref_cell v)))) q ∙ get_set_same slots w (Held (ref_cell v)) (Held (record { sort = at_w.cell.sort; fields = at_w.fields })) at_w.stands)
      ∙ sym (ap (λ (o : Option Slot). words_in o) (ap (slice_get slots) q ∙ at_w.stands)))
      (λ (n : f ≢ w). ap (λ (o : Option Slot). words_in o) (get_set_other slots w (Held (ref_cell v)) f n))
      (eq_or_not f w)

  home_other : (v : Word) (r s : Registers) (home : Home) → AlikeRegisters r s → home_word (set slots w (Held (ref_cell v))) s home ≡ home_word slots r home
  home_other v r s (spot.Register k) q = ap (λ (f : ℕ → Option Word). f k) q.0
  home_other v r s (spot.Spill i) q = ap (λ (o : Option (List Word)). word_in o i) (frame_other v s.frame ∙ ap (frame_words slots) q.1)

  pub fits_set : (v : Word) (r s : Registers) (env : Vars) (at : Places) (vars : List ℕ) → AlikeRegisters r s → Fits homes slots r env at vars → Fits homes (set slots w (Held (ref_cell v))) s env at vars
  fits_set v r s env at vars q f x m u g = let p = f x m u g in (p.0, home_other v r s (home_of (at x)) q ∙ p.1, p.2)

  pub frame_set : (v : Word) (frame : Option ℕ) (n : ℕ) → FrameFits slots frame n → FrameFits (set slots w (Held (ref_cell v))) frame n
  frame_set v frame n (inl q) = inl q
  frame_set v frame n (inr f) =
      inr (f.0, f.1, f.2, get_set_other slots w (Held (ref_cell v)) f.0 (λ q. let t : Some (Spilled f.1) ≡ Some (Held (record { sort = at_w.cell.sort; fields = at_w.fields })) = sym f.3 ∙ ap (slice_get slots) q ∙ at_w.stands in cc) ∙ f.3, f.4)

-- the same registers but for the scratch ones
pub home_alike : (slots : List Slot) (r s : Registers) (home : Home) → AlikeRegisters r s → home_word slots s home ≡ home_word slots r home
home_alike slots r s (spot.Register k) q = ap (λ (g : ℕ → Option Word). g k) q.0
home_alike slots r s (spot.Spill i) q = ap (λ (o : Option ℕ). word_in (frame_words slots o) i) q.1

pub fits_alike : (homes : List ℕ) (slots : List Slot) (r s : Registers) (env : Vars) (at : Places) (vars : List ℕ) → AlikeRegisters r s → Fits homes slots r env at vars → Fits homes slots s env at vars
fits_alike homes slots r s env at vars q h x m u g = let p = h x m u g in (p.0, home_alike slots r s (home_of (at x)) q ∙ p.1, p.2)
