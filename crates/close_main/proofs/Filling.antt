-- What stands in slots that are filled by label.
use Rattle.std.proofs.Common.{◌≡◌, ℕ, zero, suc, ◌+◌, ◌<◌, ◌≤◌, List, [], ◌∷◌, ◌++◌, ◌⊎◌, Option, Some, None, length, replicate, slice_get, slice_set, inl, inr, ⊎_elim, refl, sym, ap, ◌∙◌, arith, nat_eq, length-set}
use Rattle.simulation.specs.Blocks.{IsAmong}
use Rattle.cps_ir.specs.declared.body.Function.{Function as Entry}
use Rattle.close_steps.specs.declared.decisions.Decision.{Decision}
use Rattle.close_steps.specs.declared.decisions.Decisions.{Decisions}
use Rattle.close_steps.specs.Visible.{decided}
use Rattle.close_labels.specs.Slots.{fill_one, fill, of_slot, of_slots}
use Rattle.close_seen.proofs.Tally.{once, once_same}

abbrev slot_or : Option (Option Entry) → Option Entry
slot_or None = None
slot_or (Some s) = s

abbrev pub slot_at : List (Option Entry) → ℕ → Option Entry
slot_at slots l = slot_or (slice_get slots l)

module _ (lab : Entry → ℕ) where
  -- by labels that are known
  abbrev pub fill_by : List (Option Entry) → List Entry → List (Option Entry)
  fill_by slots [] = slots
  fill_by slots (f ∷ fs) = fill_by (slice_set slots (lab f) (Some f)) fs

  pub fill_is : (d : Decisions) (fs : List Entry) → ((f : Entry) → IsAmong f fs → (k : Decision) × (decided d f.name ≡ Some k) × (k.label.0 ≡ lab f)) → (slots : List (Option Entry)) → fill d slots fs ≡ fill_by slots fs
  fill_is d [] h slots = refl
  fill_is d (f ∷ fs) h slots =
      let k = h f (inl refl) in
      ap (λ o. fill d (fill_one slots f o) fs) k.1 ∙ ap (λ l. fill d (slice_set slots l (Some f)) fs) k.2 ∙ fill_is d fs (λ g m. h g (inr m)) (slice_set slots (lab f) (Some f))

  pub fill_length : (slots : List (Option Entry)) (fs : List Entry) → length (fill_by slots fs) ≡ length slots
  fill_length slots [] = refl
  fill_length slots (f ∷ fs) = fill_length (slice_set slots (lab f) (Some f)) fs ∙ length-set slots (lab f) (Some f)

  set_found : (slots : List (Option Entry)) (i l : ℕ) (g f : Entry) → slot_at (slice_set slots i (Some g)) l ≡ Some f → ((i ≡ l) × (f ≡ g)) ⊎ (slot_at slots l ≡ Some f)
  set_found [] i l g f e = inr e
  set_found (s ∷ slots) zero zero g f e = inl (refl, (let o : g ≡ f = cc in sym o))
  set_found (s ∷ slots) zero (suc l) g f e = inr e
  set_found (s ∷ slots) (suc i) zero g f e = inr e
  set_found (s ∷ slots) (suc i) (suc l) g f e =
      ⊎_elim (λ (h : (i ≡ l) × (f ≡ g)). inl (ap suc h.0, h.1)) (λ (h : slot_at slots l ≡ Some f). inr h) (set_found slots i l g f e)

  -- what stands in a slot is a function of its label, or stood there
  pub fill_found : (slots : List (Option Entry)) (fs : List Entry) (l : ℕ) (f : Entry) → slot_at (fill_by slots fs) l ≡ Some f → (IsAmong f fs × (lab f ≡ l)) ⊎ (slot_at slots l ≡ Some f)
  fill_found slots [] l f e = inr e
  fill_found slots (g ∷ fs) l f e =
      ⊎_elim (λ (h : IsAmong f fs × (lab f ≡ l)). inl (inr h.0, h.1))
      (λ (h : slot_at (slice_set slots (lab g) (Some g)) l ≡ Some f).
      ⊎_elim (λ (r : (lab g ≡ l) × (f ≡ g)). inl (inl r.1, ap lab r.1 ∙ r.0)) (λ (r : slot_at slots l ≡ Some f). inr r) (set_found slots (lab g) l g f h))
      (fill_found (slice_set slots (lab g) (Some g)) fs l f e)

  set_at : (slots : List (Option Entry)) (l : ℕ) (g : Entry) → l < length slots → slot_at (slice_set slots l (Some g)) l ≡ Some g
  set_at [] l g h = absurd (omega (arith, h))
  set_at (s ∷ slots) zero g h = refl
  set_at (s ∷ slots) (suc l) g h = set_at slots l g (omega (arith, h))

  set_keeps : (slots : List (Option Entry)) (i l : ℕ) (g f : Entry) → slot_at slots l ≡ Some f → (h : Entry) × (slot_at (slice_set slots i (Some g)) l ≡ Some h)
  set_keeps [] i l g f e = (f, e)
  set_keeps (s ∷ slots) zero zero g f e = (g, refl)
  set_keeps (s ∷ slots) zero (suc l) g f e = (f, e)
  set_keeps (s ∷ slots) (suc i) zero g f e = (f, e)
  set_keeps (s ∷ slots) (suc i) (suc l) g f e = set_keeps slots i l g f e

  fill_keeps : (slots : List (Option Entry)) (fs : List Entry) (l : ℕ) (f : Entry) → slot_at slots l ≡ Some f → (h : Entry) × (slot_at (fill_by slots fs) l ≡ Some h)
  fill_keeps slots [] l f e = (f, e)
  fill_keeps slots (g ∷ fs) l f e = let r = set_keeps slots (lab g) l g f e in fill_keeps (slice_set slots (lab g) (Some g)) fs l r.0 r.1

  -- the slot of a function's label isn't empty
  pub fill_taken : (slots : List (Option Entry)) (fs : List Entry) (f : Entry) → IsAmong f fs → lab f < length slots → (h : Entry) × (slot_at (fill_by slots fs) (lab f) ≡ Some h)
  fill_taken slots [] f m l = absurd m
  fill_taken slots (g ∷ fs) f (inl e) l =
      fill_keeps (slice_set slots (lab g) (Some g)) fs (lab f) g (ap (λ (k : Entry). slot_at (slice_set slots (lab k) (Some k)) (lab f)) (sym e) ∙ set_at slots (lab f) f l ∙ ap Some e)
  fill_taken slots (g ∷ fs) f (inr m) l = let n = length-set slots (lab g) (Some g) in fill_taken (slice_set slots (lab g) (Some g)) fs f m (omega (arith, l, n))

  -- ---- Where no two functions have one label, all stand in slots

  module _ (w : Entry → ℕ) where
    abbrev pub weigh : List Entry → ℕ
    weigh [] = 0
    weigh (f ∷ fs) = w f + weigh fs

    pub weigh_append : (fs gs : List Entry) → weigh (fs ++ gs) ≡ weigh fs + weigh gs
    weigh_append [] gs = omega arith
    weigh_append (f ∷ fs) gs = let e = weigh_append fs gs in omega (arith, e)

    one_more : (slots : List (Option Entry)) (l : ℕ) (f : Entry) → l < length slots → slot_at slots l ≡ None → weigh (of_slots (slice_set slots l (Some f))) ≡ w f + weigh (of_slots slots)
    one_more [] l f h e = absurd (omega (arith, h))
    one_more (s ∷ slots) zero f h e = ap (λ o. w f + weigh (of_slot o ++ of_slots slots)) (sym e)
    one_more (s ∷ slots) (suc l) f h e =
        let r = one_more slots l f (omega (arith, h)) e in
        let a = weigh_append (of_slot s) (of_slots (slice_set slots l (Some f))) in
        let b = weigh_append (of_slot s) (of_slots slots) in
        omega (arith, r, a, b)

    abbrev with_label : ℕ → Entry → ℕ
    with_label l f = once (nat_eq (lab f) l)

  abbrev pub count : ℕ → List Entry → ℕ
  count l [] = 0
  count l (f ∷ fs) = once (nat_eq (lab f) l) + count l fs

  pub counts : (l : ℕ) (fs : List Entry) (f : Entry) → IsAmong f fs → lab f ≡ l → 1 ≤ count l fs
  counts l [] f m e = absurd m
  counts l (g ∷ fs) f (inl q) e = let o : once (nat_eq (lab g) l) ≡ 1 = ap (λ n. once (nat_eq n l)) (ap lab (sym q) ∙ e) ∙ once_same l in omega (arith, o)
  counts l (g ∷ fs) f (inr m) e = let r = counts l fs f m e in omega (arith, r)

  pub only_one : (l : ℕ) (fs : List Entry) (f g : Entry) → count l fs ≤ 1 → IsAmong f fs → IsAmong g fs → lab f ≡ l → lab g ≡ l → f ≡ g
  only_one l [] f g c m n e h = absurd m
  only_one l (k ∷ fs) f g c (inl m) (inl n) e h = m ∙ sym n
  only_one l (k ∷ fs) f g c (inl m) (inr n) e h =
      absurd (let a = counts l fs g n h in let o : once (nat_eq (lab k) l) ≡ 1 = ap (λ i. once (nat_eq i l)) (ap lab (sym m) ∙ e) ∙ once_same l in omega (arith, a, o, c))
  only_one l (k ∷ fs) f g c (inr m) (inl n) e h =
      absurd (let a = counts l fs f m e in let o : once (nat_eq (lab k) l) ≡ 1 = ap (λ i. once (nat_eq i l)) (ap lab (sym n) ∙ h) ∙ once_same l in omega (arith, a, o, c))
  only_one l (k ∷ fs) f g c (inr m) (inr n) e h = only_one l fs f g (omega (arith, c)) m n e h

  pub all_weighed : (w : Entry → ℕ) (slots : List (Option Entry)) (fs : List Entry) → ((l : ℕ) → count l fs ≤ 1) → ((f : Entry) → IsAmong f fs → (lab f < length slots) × (slot_at slots (lab f) ≡ None)) → weigh w (of_slots (fill_by slots fs)) ≡ weigh w fs + weigh w (of_slots slots)
  all_weighed w slots [] few free = omega arith
  all_weighed w slots (f ∷ fs) few free =
      let here = free f (inl refl) in
      let a = one_more w slots (lab f) f here.0 here.1 in
      let r =
      all_weighed w (slice_set slots (lab f) (Some f)) fs
      (λ l. (let c = few l in omega (arith, c)))
      (λ g m. still g m (free g (inr m))) in
      omega (arith, a, r)
    where
      still : (g : Entry) → IsAmong g fs → (lab g < length slots) × (slot_at slots (lab g) ≡ None) → (lab g < length (slice_set slots (lab f) (Some f))) × (slot_at (slice_set slots (lab f) (Some f)) (lab g) ≡ None)
      still g m h =
          let n = length-set slots (lab f) (Some f) in
          (let l = h.0 in omega (arith, l, n), by (slot_at (slice_set slots (lab f) (Some f)) (lab g)) refl)
        where
          by : (o : Option Entry) → slot_at (slice_set slots (lab f) (Some f)) (lab g) ≡ o → slot_at (slice_set slots (lab f) (Some f)) (lab g) ≡ None
          by None e = e
          by (Some k) e =
              absurd
              (⊎_elim (λ (r : (lab f ≡ lab g) × (k ≡ f)). let a = counts (lab g) fs g m refl in let o : once (nat_eq (lab f) (lab g)) ≡ 1 = ap (λ i. once (nat_eq i (lab g))) r.0 ∙ once_same (lab g) in let c = few (lab g) in omega (arith, a, o, c))
              (λ (r : slot_at slots (lab g) ≡ Some k). let z : None ≡ Some k = sym h.1 ∙ r in cc)
              (set_found slots (lab f) (lab g) f k e))

  none_there : (n l : ℕ) → slot_at (replicate n None) l ≡ None
  none_there zero l = refl
  none_there (suc n) zero = refl
  none_there (suc n) (suc l) = none_there n l

  pub length_empty : (n : ℕ) → length (replicate {A = Option Entry} n None) ≡ n
  length_empty zero = refl
  length_empty (suc n) = ap suc (length_empty n)

  none_weighed : (w : Entry → ℕ) (n : ℕ) → weigh w (of_slots (replicate n None)) ≡ 0
  none_weighed w zero = refl
  none_weighed w (suc n) = none_weighed w n

  -- from empty slots
  pub filled_from_none : (n : ℕ) (fs : List Entry) (l : ℕ) (f : Entry) → slot_at (fill_by (replicate n None) fs) l ≡ Some f → IsAmong f fs × (lab f ≡ l)
  filled_from_none n fs l f e =
      ⊎_elim (λ (h : IsAmong f fs × (lab f ≡ l)). h) (λ (h : slot_at (replicate n None) l ≡ Some f). absurd (let z : None ≡ Some f = sym (none_there n l) ∙ h in cc)) (fill_found (replicate n None) fs l f e)

  pub weighed_from_none : (w : Entry → ℕ) (n : ℕ) (fs : List Entry) → ((l : ℕ) → count l fs ≤ 1) → ((f : Entry) → IsAmong f fs → lab f < n) → weigh w (of_slots (fill_by (replicate n None) fs)) ≡ weigh w fs
  weighed_from_none w n fs few low =
      let a = all_weighed w (replicate n None) fs few (λ f m. (let l = low f m in let k = length_empty n in omega (arith, l, k), none_there n (lab f))) in
      let b = none_weighed w n in
      omega (arith, a, b)

-- a function that stands in slots stands in one
pub in_slots : (slots : List (Option Entry)) (f : Entry) → IsAmong f (of_slots slots) → (l : ℕ) × (slot_at slots l ≡ Some f)
in_slots [] f m = absurd m
in_slots (None ∷ slots) f m = let r = in_slots slots f m in (suc r.0, r.1)
in_slots (Some g ∷ slots) f (inl e) = (0, ap Some (sym e))
in_slots (Some g ∷ slots) f (inr m) = let r = in_slots slots f m in (suc r.0, r.1)
