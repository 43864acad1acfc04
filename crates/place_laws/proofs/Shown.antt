-- What is seen of the arena is what is seen of the closed machine's blocks, but for spill records and words inside.
use Rattle.std.proofs.Common.{map, ◌≡◌, ◌≢◌, ℕ, zero, suc, ◌+◌, ◌<◌, ◌==◌, List, [], ◌∷◌, length, Option, Some, None, slice_get, cond, true, false, inl, inr, refl, sym, ap, ◌∙◌, subst, arith, ⊎_elim}
use Rattle.std.proofs.lemmas.Option.{slice_get_within}
use Rattle.std.proofs.lemmas.Bool.Decides.{eqb_tells}
use Rattle.smlc_base.specs.declared.point.Point.{Point}
use Rattle.simulation.specs.Blocks.{ClassRecord, SpillRecord, Block, IsAmong, StandsAt, Reach, root, field, AreOfOneSort, IsCounted, IsLike, Embeds}
use Rattle.simulation.specs.Keeps.{AllNamed, IsNamedBy, HasTidyReach}
use Rattle.simulation.proofs.Heaps.{stands_map, stands_of}
use Rattle.simulation.proofs.Lists.{get_below}
use Rattle.closure_ir.specs.declared.operand.Shape.TheVariants as shape
use Rattle.closure_ir.specs.Words.{Word, Cell, Sort, Made, extra_words}
use Rattle.closure_ir.specs.Run.{closure_kind, sort_kind, view_cell, all_pointed}
use Rattle.placed_ir.specs.Arena.{Slot, Held, Spilled, Filler, view_slot}
use Rattle.place_laws.specs.Lies.{SameAll, Heap}
use Rattle.place_laws.proofs.Values.{all_length, all_same_pointed, all_pointed_same}

-- the block whose home is w
abbrev pub index_of : List ℕ → ℕ → ℕ
index_of [] w = 0
index_of (h ∷ hs) w = cond (h == w) 0 (suc (index_of hs w))

abbrev IsRising : List ℕ → Type 0
IsRising homes = (a b w v : ℕ) → a < b → slice_get homes a ≡ Some w → slice_get homes b ≡ Some v → w < v

index_home : (homes : List ℕ) → IsRising homes → (a w : ℕ) → slice_get homes a ≡ Some w → index_of homes w ≡ a
index_home [] r a w e = absurd (cc)
index_home (h ∷ hs) r zero w e =
    ⊎_elim
    (λ (q : ((h == w) ≡ true) × (h ≡ w)). ap (λ b. cond b 0 (suc (index_of hs w))) q.0)
    (λ (q : ((h == w) ≡ false) × (h ≢ w)). absurd (q.1 (let g : Some h ≡ Some w = e in let k : h ≡ w = cc in k)))
    (eqb_tells h w)
index_home (h ∷ hs) r (suc a) w e =
    ⊎_elim
    (λ (q : ((h == w) ≡ true) × (h ≡ w)). absurd (let l = r 0 (suc a) h w (omega arith) refl e in let k = q.1 in omega arith))
    (λ (q : ((h == w) ≡ false) × (h ≢ w)). ap (λ b. cond b 0 (suc (index_of hs w))) q.0 ∙ ap suc (index_home hs (λ i j x y l f g. r (suc i) (suc j) x y (omega arith) f g) a w e))
    (eqb_tells h w)

closure_no_spill : (o : Option Point) → closure_kind o ≢ SpillRecord
closure_no_spill None e = cc
closure_no_spill (Some p) e = cc

no_spill_sort : (points : List Point) (s : Sort) → sort_kind points s ≢ SpillRecord
no_spill_sort points (Made (shape.Closure l)) e = closure_no_spill (slice_get points l.0) e
no_spill_sort points _ e = cc

counted_held : (points : List Point) (s : Slot) → IsCounted (view_slot points s) → (d : Cell) × (s ≡ Held d)
counted_held points (Held d) c = (d, refl)
counted_held points (Spilled ws) (inl h) = let k = h.0 in absurd (cc)
counted_held points (Spilled ws) (inr h) = absurd h.1
counted_held points Filler (inl h) = let k = h.0 in absurd (cc)
counted_held points Filler (inr h) = absurd h.1

class_held : (points : List Point) (s : Slot) → (view_slot points s).kind ≡ ClassRecord → (d : Cell) × (s ≡ Held d)
class_held points (Held d) c = (d, refl)
class_held points (Spilled ws) e = absurd (cc)
class_held points Filler e = absurd (cc)

left_counted : (x y : Block) → AreOfOneSort x y → IsCounted x
left_counted x y (inl h) = inl (h.0, h.0)
left_counted x y (inr h) = inr (h.0, h.1, h.1)

right_counted : (x y : Block) → AreOfOneSort x y → IsCounted y
right_counted x y (inl h) = inl (h.1, h.1)
right_counted x y (inr h) = inr (h.0, h.2, h.2)

module _ (points : List Point) (homes : List ℕ) (cells : List Cell) (slots : List Slot) (h : Heap homes cells slots) where
  abbrev Large : List Block
  Large = map (view_cell points) cells

  abbrev Small : List Block
  Small = map (view_slot points) slots

  -- block a, whose home is w
  record At_home (a w : ℕ) : Type 0 where
    cell : Cell
    fields : List Word
    there : slice_get cells a ≡ Some cell
    stands : slice_get slots w ≡ Some (Held (record { sort = cell.sort; fields = fields }))
    same : SameAll homes cell.fields fields

  at_home : (a w : ℕ) → slice_get homes a ≡ Some w → At_home a w
  at_home a w e =
      let l : a < length cells = let m = slice_get_within homes a w e in let n = h.as_long in omega arith in
      let c = get_below cells a l in
      let p = h.cell a c.0 c.1 in
      let g : Some p.word ≡ Some w = sym p.home ∙ e in
      let k : p.word ≡ w = cc in
      record { cell = c.0; fields = p.fields; there = c.1; stands = ap (slice_get slots) (sym k) ∙ p.stands; same = p.same }

  -- what is seen at a home
  seen_small : (a w : ℕ) (p : At_home a w) → StandsAt Small w (view_slot points (Held (record { sort = p.cell.sort; fields = p.fields })))
  seen_small a w p = stands_of (view_slot points) slots w (Held (record { sort = p.cell.sort; fields = p.fields })) p.stands

  seen_large : (a w : ℕ) (p : At_home a w) → StandsAt Large a (view_cell points p.cell)
  seen_large a w p = stands_of (view_cell points) cells a p.cell p.there

  stands_one : (m : List Block) (a : ℕ) (x y : Block) → StandsAt m a x → StandsAt m a y → x ≡ y
  stands_one m a x y s t = let g : Some x ≡ Some y = sym s ∙ t in cc

  index_at : (a w : ℕ) → slice_get homes a ≡ Some w → index_of homes w ≡ a
  index_at a w e = index_home homes h.rising a w e

  held_home : (w : ℕ) (x : Block) → StandsAt Small w x → ((s : Slot) → (view_slot points s ≡ x) → (d : Cell) × (s ≡ Held d)) → (a : ℕ) × (slice_get homes a ≡ Some w)
  held_home w x s f =
      let p = stands_map (view_slot points) slots w x s in
      let d = f p.0 p.2 in
      let o = h.only w d.0 (p.1 ∙ ap Some d.1) in
      (o.0, o.1)

  counted_home : (w : ℕ) (x : Block) → StandsAt Small w x → IsCounted x → (a : ℕ) × (slice_get homes a ≡ Some w)
  counted_home w x s c = held_home w x s (λ t e. counted_held points t (subst IsCounted (sym e) c))

  class_home : (w : ℕ) (x : Block) → StandsAt Small w x → x.kind ≡ ClassRecord → (a : ℕ) × (slice_get homes a ≡ Some w)
  class_home w x s c = held_home w x s (λ t e. class_held points t (ap (λ b. b.kind) e ∙ c))

  like_home : (a w : ℕ) (p : At_home a w) → IsLike (view_slot points (Held (record { sort = p.cell.sort; fields = p.fields }))) (view_cell points p.cell)
  like_home a w p = record { datum = λ e. (e, ap (λ n. suc (extra_words p.cell.sort + n)) (sym (all_length homes p.cell.fields p.fields p.same))); points = λ q m. m }

  pub embeds_by : (From Into : ℕ → Type 0) → ((a w : ℕ) → slice_get homes a ≡ Some w → From w → Into a) → Embeds Small From Large Into (index_of homes)
  embeds_by From Into link = record {
    image = λ w x from s c.
        let o = counted_home w x s c in
        let p = at_home o.0 w o.1 in (
          view_cell points p.cell,
          subst (λ i. StandsAt Large i (view_cell points p.cell)) (sym (index_at o.0 w o.1)) (seen_large o.0 w p),
          subst Into (sym (index_at o.0 w o.1)) (link o.0 w o.1 from),
          subst (λ b. IsLike b (view_cell points p.cell)) (stands_one Small w (view_slot points (Held (record { sort = p.cell.sort; fields = p.fields }))) x (seen_small o.0 w p) s) (like_home o.0 w p),
        );
    apart = λ w v x y from into s t c e.
        let o = counted_home w x s (left_counted x y c) in
        let q = counted_home v y t (right_counted x y c) in
        let k : o.0 ≡ q.0 = sym (index_at o.0 w o.1) ∙ e ∙ index_at q.0 v q.1 in
        let g : Some w ≡ Some v = sym o.1 ∙ ap (slice_get homes) k ∙ q.1 in
        let r : w ≡ v = cc in
        r;
  }

  -- ---- Reach, both ways

  module _ (rs rl : List ℕ) where
    abbrev LeadBack : Type 0
    LeadBack = (w : ℕ) → IsAmong w rs → (a : ℕ) × IsAmong a rl × (slice_get homes a ≡ Some w)

    abbrev LeadOn : Type 0
    LeadOn = (a : ℕ) → IsAmong a rl → (w : ℕ) × IsAmong w rs × (slice_get homes a ≡ Some w)

    back_field : (a w v : ℕ) (x : Block) → slice_get homes a ≡ Some w → Reach Large rl a → StandsAt Small w x → IsAmong v x.fields → (b : ℕ) × (slice_get homes b ≡ Some v) × Reach Large rl b
    back_field a w v x e r s m =
        let p = at_home a w e in
        let q = stands_one Small w x (view_slot points (Held (record { sort = p.cell.sort; fields = p.fields }))) s (seen_small a w p) in
        let o = all_same_pointed homes p.cell.fields p.fields p.same v (subst (λ b. IsAmong v b.fields) q m) in
        (o.0, o.2, field a o.0 (view_cell points p.cell) r (seen_large a w p) o.1)

    pub reach_back : LeadBack → (w : ℕ) → Reach Small rs w → (a : ℕ) × (slice_get homes a ≡ Some w) × Reach Large rl a
    reach_back lead w (root w' m) = let o = lead w m in (o.0, o.2, root o.0 o.1)
    reach_back lead w (field v w' x r s m) = let o = reach_back lead v r in back_field o.0 v w x o.1 o.2 s m

    on_field : (a b w : ℕ) (y : Block) → slice_get homes a ≡ Some w → Reach Small rs w → StandsAt Large a y → IsAmong b y.fields → (v : ℕ) × (slice_get homes b ≡ Some v) × Reach Small rs v
    on_field a b w y e r s m =
        let p = at_home a w e in
        let q = stands_one Large a y (view_cell points p.cell) s (seen_large a w p) in
        let o = all_pointed_same homes p.cell.fields p.fields p.same b (subst (λ z. IsAmong b z.fields) q m) in
        (o.0, o.2, field w o.0 (view_slot points (Held (record { sort = p.cell.sort; fields = p.fields }))) r (seen_small a w p) o.1)

    pub reach_on : LeadOn → (a : ℕ) → Reach Large rl a → (w : ℕ) × (slice_get homes a ≡ Some w) × Reach Small rs w
    reach_on lead a (root a' m) = let o = lead a m in (o.0, o.2, root o.0 o.1)
    reach_on lead a (field b a' y r s m) = let o = reach_on lead b r in on_field b a o.0 y o.1 o.2 s m

  -- a closure that names a class record names it in the arena
  named_home : (a c w v : ℕ) → slice_get homes a ≡ Some w → slice_get homes c ≡ Some v → IsNamedBy Large a c → IsNamedBy Small w v
  named_home a c w v e f n =
      let p = at_home c v f in
      let q = stands_one Large c n.block (view_cell points p.cell) n.stands (seen_large c v p) in
      let o = all_pointed_same homes p.cell.fields p.fields p.same a (subst (λ z. IsAmong a z.fields) q n.names) in
      let g : Some o.0 ≡ Some w = sym o.2 ∙ e in
      let k : o.0 ≡ w = cc in
      record {
        block = view_slot points (Held (record { sort = p.cell.sort; fields = p.fields }));
        point = n.point;
        stands = seen_small c v p;
        closure = sym (ap (λ z. z.kind) q) ∙ n.closure;
        names = subst (λ z. IsAmong z (all_pointed p.fields)) k o.1;
      }

  class_large : (a w : ℕ) (x : Block) → slice_get homes a ≡ Some w → StandsAt Small w x → (p : At_home a w) → (view_cell points p.cell).kind ≡ x.kind
  class_large a w x e s p = ap (λ z. z.kind) (stands_one Small w (view_slot points (Held (record { sort = p.cell.sort; fields = p.fields }))) x (seen_small a w p) s)

  pub named_shown : AllNamed Large → AllNamed Small
  named_shown n w x s k =
      let o = class_home w x s k in
      let p = at_home o.0 w o.1 in
      let q = n o.0 (view_cell points p.cell) (seen_large o.0 w p) (class_large o.0 w x o.1 s p ∙ k) in
      let c = stands_map (view_cell points) cells q.0 q.2.block q.2.stands in
      let l = h.cell q.0 c.0 c.1 in
      (l.word, h.rising o.0 q.0 w l.word q.1 o.1 l.home, named_home o.0 q.0 w l.word o.1 l.home q.2)

  pub tidy_shown : (rs rl : List ℕ) → LeadBack rs rl → LeadOn rs rl → HasTidyReach Large rl → HasTidyReach Small rs
  tidy_shown rs rl back on t = record {
    no_spill = λ w x r s k.
        let o = reach_back rs rl back w r in
        let p = at_home o.0 w o.1 in
        no_spill_sort points p.cell.sort (class_large o.0 w x o.1 s p ∙ k);
    by_closure = λ w x r s k.
        let o = reach_back rs rl back w r in
        let p = at_home o.0 w o.1 in
        let q = t.by_closure o.0 (view_cell points p.cell) o.2 (seen_large o.0 w p) (class_large o.0 w x o.1 s p ∙ k) in
        let v = reach_on rs rl on q.0 q.1 in
        (v.0, v.2, named_home o.0 q.0 w v.0 o.1 v.1 q.2);
  }

  pub reaches_shown : (rs rl : List ℕ) → LeadBack rs rl → Embeds Small (Reach Small rs) Large (Reach Large rl) (index_of homes)
  reaches_shown rs rl back = embeds_by (Reach Small rs) (Reach Large rl) (λ a w e r.
      let o = reach_back rs rl back w r in
      let k : o.0 ≡ a = sym (index_at o.0 w o.1) ∙ index_at a w e in
      subst (Reach Large rl) k o.2)
