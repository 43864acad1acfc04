-- The map between two memories that show stores of items of any types.
use Rattle.std.proofs.Common.{map, slice_get, ◌≡◌, ℕ, ◌<◌, List, length, Some, inr, sym, ap, ◌∙◌, subst, subst₂, arith, ⊎_elim}
use Rattle.std.proofs.lemmas.List.{length-map}
use Rattle.simulation.specs.Blocks.{Block, IsAmong, StandsAt, Reach, AreOfOneSort, IsCounted, IsLike, Embeds}
use Rattle.simulation.proofs.Heaps.{IsUncounted, counted_cases, Through, through_cases, LeadsFrom, IsHeapMap, heap_reaches, stands_map, stands_of}

-- where nothing stands outside the maps, no way goes on
pub through_none : (memory : List Block) → ((a : ℕ) (x : Block) → StandsAt memory a x → IsCounted x) → (a b : ℕ) → Through memory a b → a ≡ b
through_none memory all a b t =
    ⊎_elim (λ (e : a ≡ b). e)
    (λ (h : (x : Block) × (r : ℕ) × StandsAt memory a x × IsUncounted x × IsAmong r x.fields × Through memory r b). absurd (h.3 (all a h.0 h.2)))
    (through_cases memory a b t)

-- What the smaller's address i names leads along these fields of the larger: it is counted itself, or each field of it leads.
pub data Led (small large : List Block) (f : ℕ → ℕ) (fields : List ℕ) : ℕ → Type 0 where
  led : (i : ℕ) → ((x : Block) → StandsAt small i x → IsCounted x) → LeadsFrom large fields (f i) → Led small large f fields i
  by_fields : (i : ℕ) (x : Block) → StandsAt small i x → IsUncounted x → ((d : ℕ) → IsAmong d x.fields → Led small large f fields d) → Led small large f fields i

pub led_through : (small large : List Block) (f : ℕ → ℕ) (fields : List ℕ) (i b : ℕ) (y : Block) → Led small large f fields i → Through small i b → StandsAt small b y → IsCounted y → LeadsFrom large fields (f b)
led_through small large f fields i b y (led i' counted l) t s c =
    ⊎_elim
    (λ (e : i ≡ b). subst (λ z. LeadsFrom large fields (f z)) e l)
    (λ (h : (x : Block) × (r : ℕ) × StandsAt small i x × IsUncounted x × IsAmong r x.fields × Through small r b). absurd (h.3 (counted h.0 h.2)))
    (through_cases small i b t)
led_through small large f fields i b y (by_fields i' x st un each) t s c =
    ⊎_elim
    (λ (e : i ≡ b).
    let g : Some x ≡ Some y = sym st ∙ ap (slice_get small) e ∙ s in
    let k : x ≡ y = cc in
    absurd (un (subst IsCounted (sym k) c)))
    (λ (h : (z : Block) × (r : ℕ) × StandsAt small i z × IsUncounted z × IsAmong r z.fields × Through small r b).
    let g : Some h.0 ≡ Some x = sym h.2 ∙ st in
    let k : h.0 ≡ x = cc in
    let m : IsAmong h.1 x.fields = subst (λ z. IsAmong h.1 z.fields) k h.4 in
    led_through small large f fields h.1 b y (each h.1 m) h.5 s c)
    (through_cases small i b t)

-- what the roots name leads along the roots, so what is reached is reached
pub roots_reach : (small large : List Block) (f : ℕ → ℕ) (rs rl : List ℕ) → IsHeapMap small large f → ((i : ℕ) → IsAmong i rs → Led small large f rl i) → Embeds small (Reach small rs) large (Reach large rl) f
roots_reach small large f rs rl h r =
    heap_reaches small large f rs rl h (λ i b y j t s c. led_through small large f rl i b y (r i j) t s c)

module _ {X Y : Type 0} (view_x : X → Block) (view_y : Y → Block) (f : ℕ → ℕ) (xs : List X) (ys : List Y) where
  -- The item y stands for the item x: it shows a block like x's, along whose fields those of x lead.
  pub record StandsFor (x : X) (y : Y) : Type 0 where
    pub like : IsLike (view_x x) (view_y y)
    pub leads : (i : ℕ) → IsAmong i (view_x x).fields → (i < length xs) × Led (map view_x xs) (map view_y ys) f (view_y y).fields i

  -- each counted item has one that stands for it, and no two of one sort have one
  pub record AreStoodFor : Type 0 where
    pub item : (a : ℕ) (x : X) → slice_get xs a ≡ Some x → IsCounted (view_x x) → (y : Y) × (slice_get ys (f a) ≡ Some y) × StandsFor x y
    pub apart : (a b : ℕ) (x y : X) → slice_get xs a ≡ Some x → slice_get xs b ≡ Some y → AreOfOneSort (view_x x) (view_x y) → f a ≡ f b → a ≡ b
    pub outside : (a i : ℕ) (x : X) → slice_get xs a ≡ Some x → IsUncounted (view_x x) → IsAmong i (view_x x).fields → i < length xs

  pub heap_of_items : AreStoodFor → IsHeapMap (map view_x xs) (map view_y ys) f
  heap_of_items h = record {
    embeds = record {
      image = λ a x _ s c.
          let p = stands_map view_x xs a x s in
          let q = h.item a p.0 p.1 (subst IsCounted (sym p.2) c) in
          (view_y q.0, stands_of view_y ys (f a) q.0 q.1, tt, subst (λ z. IsLike z (view_y q.0)) p.2 q.2.like);
      apart = λ a b x y _ _ s t c e.
          let p = stands_map view_x xs a x s in
          let q = stands_map view_x xs b y t in
          h.apart a b p.0 q.0 p.1 q.1 (subst₂ AreOfOneSort (sym p.2) (sym q.2) c) e;
    };
    within = λ a i x s m.
        let p = stands_map view_x xs a x s in
        let j : IsAmong i (view_x p.0).fields = subst (λ z. IsAmong i z.fields) (sym p.2) m in
        let l : i < length xs = ⊎_elim
        (λ (c : IsCounted (view_x p.0)). ((h.item a p.0 p.1 c).2.leads i j).0)
        (λ (c : IsUncounted (view_x p.0)). h.outside a i p.0 p.1 c j)
        (counted_cases (view_x p.0)) in
        omega (arith, length-map xs view_x);
    leads = λ a i b x y s c m t u d.
        let p = stands_map view_x xs a x s in
        let q = h.item a p.0 p.1 (subst IsCounted (sym p.2) c) in
        let l = (q.2.leads i (subst (λ z. IsAmong i z.fields) (sym p.2) m)).1 in
        inr (view_y q.0, stands_of view_y ys (f a) q.0 q.1, led_through (map view_x xs) (map view_y ys) f (view_y q.0).fields i b y l t u d);
  }
