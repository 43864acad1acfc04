-- How the closed machine's blocks lie in the arena.
use Rattle.std.proofs.Common.{map, ◌≡◌, ℕ, zero, suc, ◌<◌, ◌≤◌, ◌+◌, List, [], ◌∷◌, ◌++◌, length, Option, Some, None, slice_get, ◌⊎◌, inl, inr, refl, sym, ap, ◌∙◌, subst, arith, ⊎_elim, length-append, ap₂}
use Rattle.std.proofs.lemmas.Option.{slice_get_within}
use Rattle.std.proofs.lemmas.List.{length-map}
use Rattle.simulation.proofs.Lists.{option_cases, get_append, get_split, get_past, get_below, some_eq}
use Rattle.sml_def.specs.Maybe.{◌>>=◌}
use Rattle.closure_ir.specs.declared.operand.Static.{Static}
use Rattle.closure_ir.specs.declared.operand.Static.TheVariants as static
use Rattle.closure_ir.specs.Words.{Word, Num, At, Fixed, Code, Cell, Cells, extra_words, cell_length, field_of, field_at, follow, label_through, code_in}
use Rattle.closure_ir.specs.Answers.{Growing, grown, part_word, Part, Old, Own}
use Rattle.placed_ir.specs.Arena.{Slot, Held, Filler, cell_in, held_at, fillers, slots_of, offset_in}
use Rattle.placed_ir.specs.Step.{growing_length, group_at, laid}
use Rattle.place_laws.specs.Lies.{Same, same_num, same_at, same_fixed, same_code, SameAll, none_same, more_same, Lies, Heap}
use Rattle.place_laws.proofs.Values.{all_get, all_more, same_more}

-- the slots of blocks alone matter
pub heap_kept : (homes : List ℕ) (cells : List Cell) (old new : List Slot) → ((w : ℕ) (d : Cell) → slice_get old w ≡ Some (Held d) → slice_get new w ≡ Some (Held d)) → ((w : ℕ) (d : Cell) → slice_get new w ≡ Some (Held d) → slice_get old w ≡ Some (Held d)) → Heap homes cells old → Heap homes cells new
heap_kept homes cells old new on back h = record {
  cell = λ a c e. let l = h.cell a c e in record { word = l.word; home = l.home; fields = l.fields; stands = on l.word (record { sort = c.sort; fields = l.fields }) l.stands; same = l.same };
  only = λ w d e. h.only w d (back w d e);
  rising = h.rising;
  as_long = h.as_long;
}

-- ---- Reading along fields

pub follow_none : (cells : Cells) (steps : List ℕ) (u : Word) → follow cells steps None ≡ Some u → ⊥
follow_none cells [] u e = cc
follow_none cells (i ∷ steps) u e = follow_none cells steps u e

module _ (homes : List ℕ) (cells : List Cell) (slots : List Slot) (h : Heap homes cells slots) where
  field_of_same : (a w i : ℕ) (u' : Word) → slice_get homes a ≡ Some w → (o : Option Cell) → slice_get cells a ≡ o → field_of o i ≡ Some u' → (v' : Word) × (field_of (held_at slots w) i ≡ Some v') × Same homes u' v'
  field_of_same a w i u' q None g f = absurd (cc)
  field_of_same a w i u' q (Some c) g f =
      let l = h.cell a c g in
      let p = all_get homes c.fields l.fields l.same i u' f in
      let k : Some l.word ≡ Some w = sym l.home ∙ q in
      let j : l.word ≡ w = cc in
      (p.0, ap (λ o. field_of (cell_in o) i) (ap (slice_get slots) (sym j) ∙ l.stands) ∙ p.1, p.2)

  -- one field
  field_same : (i : ℕ) (u v u' : Word) → Same homes u v → field_at (slice_get cells) i u ≡ Some u' → (v' : Word) × (field_at (held_at slots) i v ≡ Some v') × Same homes u' v'
  field_same i u v u' (same_num n) e = absurd (cc)
  field_same i u v u' (same_fixed t) e = absurd (cc)
  field_same i u v u' (same_code l) e = absurd (cc)
  field_same i u v u' (same_at a w q) e = field_of_same a w i u' q (slice_get cells a) refl e

  pub follow_same : (steps : List ℕ) (u v u' : Word) → Same homes u v → follow (slice_get cells) steps (Some u) ≡ Some u' → (v' : Word) × (follow (held_at slots) steps (Some v) ≡ Some v') × Same homes u' v'
  follow_same [] u v u' s e = (v, refl, subst (λ t. Same homes t v) (let g : u ≡ u' = cc in g) s)
  follow_same (i ∷ steps) u v u' s e =
      ⊎_elim
      (λ (n : field_at (slice_get cells) i u ≡ None). absurd (follow_none (slice_get cells) steps u' (ap (follow (slice_get cells) steps) (sym n) ∙ e)))
      (λ (m : (t : Word) × (field_at (slice_get cells) i u ≡ Some t)).
      let p = field_same i u v m.0 s m.1 in
      let q = follow_same steps m.0 p.0 u' p.2 (ap (follow (slice_get cells) steps) (sym m.1) ∙ e) in
      (q.0, ap (follow (held_at slots) steps) p.1 ∙ q.1, q.2))
      (option_cases (field_at (slice_get cells) i u))

  code_of : (u v : Word) (l : ℕ) → Same homes u v → code_in u ≡ Some l → code_in v ≡ Some l
  code_of u v l (same_num n) e = absurd (cc)
  code_of u v l (same_at a w q) e = absurd (cc)
  code_of u v l (same_fixed t) e = absurd (cc)
  code_of u v l (same_code k) e = e

  code_same : (o o' : Option Word) (l : ℕ) → ((u : Word) → o ≡ Some u → (v : Word) × (o' ≡ Some v) × Same homes u v) → (o >>= code_in) ≡ Some l → (o' >>= code_in) ≡ Some l
  code_same None o' l f e = absurd (cc)
  code_same (Some u) o' l f e = let p = f u refl in ap (λ (t : Option Word). t >>= code_in) p.1 ∙ code_of u p.0 l p.2 e

  pub label_same : (u v : Word) (l : ℕ) → Same homes u v → label_through (slice_get cells) u ≡ Some l → label_through (held_at slots) v ≡ Some l
  label_same u v l (same_num n) e = absurd (cc)
  label_same u v l (same_fixed (static.Function f)) e = e
  label_same u v l (same_fixed (static.Text t)) e = absurd (cc)
  label_same u v l (same_fixed (static.Library x)) e = absurd (cc)
  label_same u v l (same_code k) e = absurd (cc)
  label_same u v l (same_at a w q) e =
      code_same (field_of (slice_get cells a) 0) (field_of (held_at slots w) 0) l (λ t g. field_of_same a w 0 t q (slice_get cells a) refl g) e

-- ---- A group of blocks is made

-- where blocks of these lengths begin, from a word on
abbrev pub starts : ℕ → List ℕ → List ℕ
starts b [] = []
starts b (n ∷ ns) = b ∷ starts (b + suc n) ns

pub starts_length : (b : ℕ) (ns : List ℕ) → length (starts b ns) ≡ length ns
starts_length b [] = refl
starts_length b (n ∷ ns) = ap suc (starts_length (b + suc n) ns)

starts_above : (b : ℕ) (ns : List ℕ) (k w : ℕ) → slice_get (starts b ns) k ≡ Some w → b ≤ w
starts_above b [] k w e = absurd (cc)
starts_above b (n ∷ ns) zero w e = let q : b ≡ w = cc in omega arith
starts_above b (n ∷ ns) (suc k) w e = let l = starts_above (b + suc n) ns k w e in omega arith

starts_rise : (b : ℕ) (ns : List ℕ) (i j w v : ℕ) → i < j → slice_get (starts b ns) i ≡ Some w → slice_get (starts b ns) j ≡ Some v → w < v
starts_rise b [] i j w v l e f = absurd (cc)
starts_rise b (n ∷ ns) i zero w v l e f = absurd (omega arith)
starts_rise b (n ∷ ns) zero (suc j) w v l e f = let q : b ≡ w = cc in let m = starts_above (b + suc n) ns j v f in omega arith
starts_rise b (n ∷ ns) (suc i) (suc j) w v l e f = starts_rise (b + suc n) ns i j w v (omega arith) e f

filler_length : (n : ℕ) → length (fillers n) ≡ n
filler_length zero = refl
filler_length (suc n) = ap suc (filler_length n)

pub filler_get : (n j : ℕ) (s : Slot) → slice_get (fillers n) j ≡ Some s → s ≡ Filler
filler_get zero j s e = absurd (cc)
filler_get (suc n) zero s e = cc
filler_get (suc n) (suc j) s e = filler_get n j s e

-- block k of a group is the slot at its start
pub slot_of_start : (b : ℕ) (ds : List Cell) (k : ℕ) (d : Cell) → slice_get ds k ≡ Some d → (j : ℕ) × (slice_get (starts b (map cell_length ds)) k ≡ Some (b + j)) × (slice_get (slots_of ds) j ≡ Some (Held d))
slot_of_start b [] k d e = absurd (cc)
slot_of_start b (c ∷ ds) zero d e = let q : c ≡ d = cc in (0, ap Some (omega arith), ap (λ t. Some (Held t)) q)
slot_of_start b (c ∷ ds) (suc k) d e =
    let p = slot_of_start (b + suc (cell_length c)) ds k d e in (
      suc (cell_length c + p.0),
      p.1 ∙ ap Some (omega arith),
      ap (slice_get (fillers (cell_length c) ++ slots_of ds)) (ap (λ n. n + p.0) (sym (filler_length (cell_length c)))) ∙ get_past (fillers (cell_length c)) (slots_of ds) p.0 ∙ p.2,
    )

pub start_of_slot : (b : ℕ) (ds : List Cell) (j : ℕ) (d : Cell) → slice_get (slots_of ds) j ≡ Some (Held d) → (k : ℕ) × (slice_get (starts b (map cell_length ds)) k ≡ Some (b + j)) × (slice_get ds k ≡ Some d)
start_of_slot b [] j d e = absurd (cc)
start_of_slot b (c ∷ ds) zero d e = (0, ap Some (omega arith), let g : Some (Held c) ≡ Some (Held d) = e in let q : c ≡ d = cc in ap Some q)
start_of_slot b (c ∷ ds) (suc j) d e =
    ⊎_elim
    (λ (g : slice_get (fillers (cell_length c)) j ≡ Some (Held d)). absurd (let t = filler_get (cell_length c) j (Held d) g in cc))
    (λ (g : (i : ℕ) × (j ≡ length (fillers (cell_length c)) + i) × (slice_get (slots_of ds) i ≡ Some (Held d))).
    let p = start_of_slot (b + suc (cell_length c)) ds g.0 d g.2 in
    let q = g.1 in
    let n = filler_length (cell_length c) in
    (suc p.0, p.1 ∙ ap Some (omega arith), p.2))
    (get_split (fillers (cell_length c)) (slots_of ds) j (Held d) e)

-- blocks with the same fields
pub data SameCells (homes : List ℕ) : List Cell → List Cell → Type 0 where
  no_cells : SameCells homes [] []
  more_cells : (c d : Cell) (cs ds : List Cell) → d.sort ≡ c.sort → SameAll homes c.fields d.fields → SameCells homes cs ds → SameCells homes (c ∷ cs) (d ∷ ds)

pub cells_length : (homes : List ℕ) (cs ds : List Cell) → SameCells homes cs ds → length ds ≡ length cs
cells_length homes cs ds no_cells = refl
cells_length homes cs ds (more_cells c d cs' ds' e s rest) = ap suc (cells_length homes cs' ds' rest)

cells_get : (homes : List ℕ) (cs ds : List Cell) → SameCells homes cs ds → (k : ℕ) (c : Cell) → slice_get cs k ≡ Some c → (vs : List Word) × (slice_get ds k ≡ Some (record { sort = c.sort; fields = vs })) × SameAll homes c.fields vs
cells_get homes cs ds no_cells k c e = absurd (cc)
cells_get homes cs ds (more_cells c' d cs' ds' q s rest) zero c e =
    some_eq (λ t. (vs : List Word) × (slice_get ds 0 ≡ Some (record { sort = t.sort; fields = vs })) × SameAll homes t.fields vs) c' c e
    (d.fields, ap (λ sh. Some (record { sort = sh; fields = d.fields })) q, s)
cells_get homes cs ds (more_cells c' d cs' ds' q s rest) (suc k) c e = cells_get homes cs' ds' rest k c e

-- past the homes of what stands
pub past_length : (homes : List ℕ) (cells : List Cell) (ns : List ℕ) (b k w : ℕ) → length homes ≡ length cells → slice_get (starts b ns) k ≡ Some w → slice_get (homes ++ starts b ns) (length cells + k) ≡ Some w
past_length homes cells ns b k w l e = ap (λ n. slice_get (homes ++ starts b ns) (n + k)) (sym l) ∙ get_past homes (starts b ns) k ∙ e

module _ (homes : List ℕ) (cells : List Cell) (slots : List Slot) (h : Heap homes cells slots) (cs ds : List Cell) where
  abbrev more_homes : List ℕ
  more_homes = homes ++ starts (length slots) (map cell_length ds)

  old_below : (a w : ℕ) → slice_get homes a ≡ Some w → w < length slots
  old_below a w e =
      let l : a < length cells = let m = slice_get_within homes a w e in let n = h.as_long in omega arith in
      let c = get_below cells a l in
      let p = h.cell a c.0 c.1 in
      let g : Some p.word ≡ Some w = sym p.home ∙ e in
      let k : p.word ≡ w = cc in
      let m = slice_get_within slots p.word (Held (record { sort = c.0.sort; fields = p.fields })) p.stands in
      subst (λ t. t < length slots) k m

  pub heap_group : SameCells more_homes cs ds → Heap more_homes (cells ++ cs) (slots ++ slots_of ds)
  heap_group s = record {
    cell = λ a c e. ⊎_elim
        (λ (g : slice_get cells a ≡ Some c). old_cell a c g)
        (λ (g : (k : ℕ) × (a ≡ length cells + k) × (slice_get cs k ≡ Some c)). new_cell a c g.0 g.1 g.2)
        (get_split cells cs a c e);
    only = λ w d e. ⊎_elim
        (λ (g : slice_get slots w ≡ Some (Held d)). let p = h.only w d g in let l = p.2 in (p.0, get_append homes (starts (length slots) (map cell_length ds)) p.0 w p.1, longer p.0 l))
        (λ (g : (j : ℕ) × (w ≡ length slots + j) × (slice_get (slots_of ds) j ≡ Some (Held d))). new_only w d g.0 g.1 g.2)
        (get_split slots (slots_of ds) w (Held d) e);
    rising = λ a b w v l e f. rise a b w v l (get_split homes (starts (length slots) (map cell_length ds)) a w e) (get_split homes (starts (length slots) (map cell_length ds)) b v f);
    as_long = omega (arith, length-append homes (starts (length slots) (map cell_length ds)), length-append cells cs, starts_length (length slots) (map cell_length ds), length-map ds cell_length, cells_length more_homes cs ds s, h.as_long);
  }
    where
      longer : (a : ℕ) → a < length cells → a < length (cells ++ cs)
      longer a l = omega (arith, length-append cells cs)

      old_cell : (a : ℕ) (c : Cell) → slice_get cells a ≡ Some c → Lies more_homes (slots ++ slots_of ds) a c
      old_cell a c g =
          let l = h.cell a c g in
          record {
            word = l.word;
            home = get_append homes (starts (length slots) (map cell_length ds)) a l.word l.home;
            fields = l.fields;
            stands = get_append slots (slots_of ds) l.word (Held (record { sort = c.sort; fields = l.fields })) l.stands;
            same = all_more homes (starts (length slots) (map cell_length ds)) c.fields l.fields l.same;
          }

      new_cell : (a : ℕ) (c : Cell) (k : ℕ) → a ≡ length cells + k → slice_get cs k ≡ Some c → Lies more_homes (slots ++ slots_of ds) a c
      new_cell a c k q g =
          let p = cells_get more_homes cs ds s k c g in
          let t = slot_of_start (length slots) ds k (record { sort = c.sort; fields = p.0 }) p.1 in
          record {
            word = length slots + t.0;
            home = ap (slice_get more_homes) q ∙ past_length homes cells (map cell_length ds) (length slots) k (length slots + t.0) h.as_long t.1;
            fields = p.0;
            stands = get_past slots (slots_of ds) t.0 ∙ t.2;
            same = p.2;
          }

      new_only : (w : ℕ) (d : Cell) (j : ℕ) → w ≡ length slots + j → slice_get (slots_of ds) j ≡ Some (Held d) → (a : ℕ) × (slice_get more_homes a ≡ Some w) × (a < length (cells ++ cs))
      new_only w d j q g =
          let p = start_of_slot (length slots) ds j d g in
          let l = slice_get_within ds p.0 d p.2 in (
            length cells + p.0,
            past_length homes cells (map cell_length ds) (length slots) p.0 (length slots + j) h.as_long p.1 ∙ ap Some (sym q),
            omega (arith, length-append cells cs, cells_length more_homes cs ds s),
          )

      rise : (a b w v : ℕ) → a < b → (slice_get homes a ≡ Some w) ⊎ ((c : ℕ) × (a ≡ length homes + c) × (slice_get (starts (length slots) (map cell_length ds)) c ≡ Some w)) → (slice_get homes b ≡ Some v) ⊎ ((c : ℕ) × (b ≡ length homes + c) × (slice_get (starts (length slots) (map cell_length ds)) c ≡ Some v)) → w < v
      rise a b w v l (inl e) (inl f) = h.rising a b w v l e f
      rise a b w v l (inl e) (inr f) = let m = old_below a w e in let n = starts_above (length slots) (map cell_length ds) f.0 v f.2 in omega arith
      rise a b w v l (inr e) (inl f) = let m = slice_get_within homes b v f in let n = e.1 in absurd (omega arith)
      rise a b w v l (inr e) (inr f) = let m = e.1 in let n = f.1 in starts_rise (length slots) (map cell_length ds) e.0 f.0 w v (omega arith) e.2 f.2

-- ---- What a block is at its home

pub record IsAt (homes : List ℕ) (cells : List Cell) (slots : List Slot) (a w : ℕ) : Type 0 where
  pub cell : Cell
  pub fields : List Word
  pub there : slice_get cells a ≡ Some cell
  pub stands : slice_get slots w ≡ Some (Held (record { sort = cell.sort; fields = fields }))
  pub same : SameAll homes cell.fields fields

pub is_at : (homes : List ℕ) (cells : List Cell) (slots : List Slot) (a w : ℕ) → Heap homes cells slots → slice_get homes a ≡ Some w → IsAt homes cells slots a w
is_at homes cells slots a w h e =
    let l : a < length cells = let m = slice_get_within homes a w e in let n = h.as_long in omega arith in
    let c = get_below cells a l in
    let p = h.cell a c.0 c.1 in
    let g : Some p.word ≡ Some w = sym p.home ∙ e in
    let k : p.word ≡ w = cc in
    record { cell = c.0; fields = p.fields; there = c.1; stands = ap (slice_get slots) (sym k) ∙ p.stands; same = p.same }

-- ---- The addresses of a group

pub starts_offset : (b : ℕ) (ns : List ℕ) (k : ℕ) → k < length ns → slice_get (starts b ns) k ≡ Some (b + offset_in ns k)
starts_offset b [] k l = absurd (omega arith)
starts_offset b (n ∷ ns) zero l = ap Some (omega arith)
starts_offset b (n ∷ ns) (suc k) l = starts_offset (b + suc n) ns k (omega arith) ∙ ap Some (omega arith)

pub group_home : (homes : List ℕ) (cells : List Cell) (b : ℕ) (ns : List ℕ) (k : ℕ) → length homes ≡ length cells → k < length ns → slice_get (homes ++ starts b ns) (length cells + k) ≡ Some (b + offset_in ns k)
group_home homes cells b ns k l m = past_length homes cells ns b k (b + offset_in ns k) l (starts_offset b ns k m)

-- ---- What primitives and comparisons build

-- parts of one of n new blocks
pub data SameParts (homes : List ℕ) (n : ℕ) : List Part → List Part → Type 0 where
  no_parts : SameParts homes n [] []
  old_part : (u v : Word) (ps qs : List Part) → Same homes u v → SameParts homes n ps qs → SameParts homes n (Old u ∷ ps) (Old v ∷ qs)
  own_part : (k : ℕ) (ps qs : List Part) → k < n → SameParts homes n ps qs → SameParts homes n (Own k ∷ ps) (Own k ∷ qs)

pub data SameGrowing (homes : List ℕ) (n : ℕ) : List Growing → List Growing → Type 0 where
  no_growing : SameGrowing homes n [] []
  more_growing : (g h : Growing) (gs hs : List Growing) → h.sort ≡ g.sort → SameParts homes n g.parts h.parts → SameGrowing homes n gs hs → SameGrowing homes n (g ∷ gs) (h ∷ hs)

module _ (homes more : List ℕ) (n : ℕ) (left right : ℕ → ℕ) (place : (k : ℕ) → k < n → slice_get (homes ++ more) (left k) ≡ Some (right k)) where
  parts_same : (ps qs : List Part) → SameParts homes n ps qs → SameAll (homes ++ more) (map (part_word left) ps) (map (part_word right) qs)
  parts_same ps qs no_parts = none_same
  parts_same ps qs (old_part u v ps' qs' s rest) =
      more_same u v (map (part_word left) ps') (map (part_word right) qs') (same_more homes more u v s) (parts_same ps' qs' rest)
  parts_same ps qs (own_part k ps' qs' l rest) =
      more_same (At (left k)) (At (right k)) (map (part_word left) ps') (map (part_word right) qs') (same_at (left k) (right k) (place k l)) (parts_same ps' qs' rest)

  pub grown_same : (gs hs : List Growing) → SameGrowing homes n gs hs → SameCells (homes ++ more) (map (grown left) gs) (map (grown right) hs)
  grown_same gs hs no_growing = no_cells
  grown_same gs hs (more_growing g h gs' hs' e p rest) =
      more_cells (grown left g) (grown right h) (map (grown left) gs') (map (grown right) hs') e (parts_same g.parts h.parts p) (grown_same gs' hs' rest)

grown_lengths : (place : ℕ → ℕ) (gs : List Growing) → map cell_length (map (grown place) gs) ≡ map growing_length gs
grown_lengths place [] = refl
grown_lengths place (g ∷ gs) =
    ap (λ n. (extra_words g.sort + n) ∷ map cell_length (map (grown place) gs)) (length-map g.parts (part_word place)) ∙ ap (λ ns. growing_length g ∷ ns) (grown_lengths place gs)

parts_length : (homes : List ℕ) (n : ℕ) (ps qs : List Part) → SameParts homes n ps qs → length qs ≡ length ps
parts_length homes n ps qs no_parts = refl
parts_length homes n ps qs (old_part u v ps' qs' s rest) = ap suc (parts_length homes n ps' qs' rest)
parts_length homes n ps qs (own_part k ps' qs' l rest) = ap suc (parts_length homes n ps' qs' rest)

pub growing_lengths : (homes : List ℕ) (n : ℕ) (gs hs : List Growing) → SameGrowing homes n gs hs → map growing_length hs ≡ map growing_length gs
growing_lengths homes n gs hs no_growing = refl
growing_lengths homes n gs hs (more_growing g h gs' hs' e p rest) =
    ap (λ m. m ∷ map growing_length hs') (ap₂ (λ s m. extra_words s + m) e (parts_length homes n g.parts h.parts p)) ∙ ap (λ ns. growing_length g ∷ ns) (growing_lengths homes n gs' hs' rest)

-- the homes with those of a group
abbrev pub wider : List ℕ → ℕ → List Growing → List ℕ
wider homes b gs = homes ++ starts b (map growing_length gs)

-- both stores with what was built
pub heap_built : (homes : List ℕ) (cells : List Cell) (slots : List Slot) (h : Heap homes cells slots) (gs hs : List Growing) → SameGrowing homes (length gs) gs hs → Heap (wider homes (length slots) gs) (cells ++ map (grown (λ k. length cells + k)) gs) (slots ++ laid (length slots) hs)
heap_built homes cells slots h gs hs s =
    let lens = growing_lengths homes (length gs) gs hs s in
    let left = λ (k : ℕ). length cells + k in
    let right = group_at (length slots) hs in
    let ds = map (grown right) hs in
    let all : map cell_length ds ≡ map growing_length gs = grown_lengths right hs ∙ lens in
    let made = grown_same homes (starts (length slots) (map growing_length gs)) (length gs) left right
    (λ k l. group_home homes cells (length slots) (map growing_length gs) k h.as_long (omega (arith, length-map gs growing_length)) ∙ ap (λ (ns : List ℕ). Some (length slots + offset_in ns k)) (sym lens)) gs hs s in
    subst (λ ns. Heap (homes ++ starts (length slots) ns) (cells ++ map (grown left) gs) (slots ++ slots_of ds)) all
    (heap_group homes cells slots h (map (grown left) gs) ds (subst (λ ns. SameCells (homes ++ starts (length slots) ns) (map (grown left) gs) ds) (sym all) made))

-- and the last of them
pub last_same : (homes : List ℕ) (cells : List Cell) (slots : List Slot) (h : Heap homes cells slots) (g i : Growing) (gs hs : List Growing) → SameGrowing homes (suc (length gs)) (g ∷ gs) (i ∷ hs) → Same (wider homes (length slots) (g ∷ gs)) (At (length cells + length gs)) (At (group_at (length slots) (i ∷ hs) (length hs)))
last_same homes cells slots h g i gs hs s =
    let lens = growing_lengths homes (suc (length gs)) (g ∷ gs) (i ∷ hs) s in
    let count : length hs ≡ length gs = let k = ap length lens in omega (arith, length-map gs growing_length, length-map hs growing_length) in
    let stands = group_home homes cells (length slots) (map growing_length (g ∷ gs)) (length gs) h.as_long (omega (arith, length-map gs growing_length)) in
    same_at (length cells + length gs) (group_at (length slots) (i ∷ hs) (length hs))
    (stands ∙ ap₂ (λ (ns : List ℕ) n. Some (length slots + offset_in ns n)) (sym lens) (sym count))
