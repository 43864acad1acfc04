-- Slots of labels, and what stands in them in order.
use Rattle.std.proofs.Common.{◌≡◌, ℕ, zero, suc, ◌+◌, ◌<◌, Bool, true, false, cond, List, [], ◌∷◌, ◌++◌, Option, Some, None, length, take, replicate, inl, inr, refl, sym, ap, ◌∙◌, subst, arith, length-set, append-nil}
use Rattle.std.specs.Prelude.{nat_eq, slice_get, slice_set, slice_index_or}
use Rattle.std.proofs.Math.Seq.{take-suc}
use Rattle.std.proofs.lemmas.Bool.{eqb-true}
use Rattle.std.proofs.lemmas.List.{append_assoc, map-append}
use Rattle.std.proofs.lemmas.Option.{slice_get-get_or}
use Rattle.smlc_base.specs.declared.point.Point.{Point}
use Rattle.smlc_base.specs.Points.{is_point}
use Rattle.simulation.specs.Blocks.{IsAmong}
use Rattle.cps_ir.specs.Slim.{Layout}
use Rattle.lifetime_users.specs.Users.{label_in}
use Rattle.label_order.specs.Order.{AreApart, of_label, by_label_from, points_in, at_number, in_slot, of_slot, slot_at, numbered, in_slots, AreSlots}
use Rattle.label_order.proofs.Ranks.{one_point}

-- ---- Rows of slots

none_at : (n l : ℕ) → slot_at (replicate n None) l ≡ None
none_at zero l = refl
none_at (suc n) zero = refl
none_at (suc n) (suc l) = none_at n l

length_none : (n : ℕ) → length (replicate {A = Option ℕ} n None) ≡ n
length_none zero = refl
length_none (suc n) = ap suc (length_none n)

pub none_yet : (all : List Layout) (n : ℕ) (slots : List (Option ℕ)) → slots ≡ replicate n None → AreSlots all [] n slots
none_yet all n slots e = record { len = ap length e ∙ length_none n; at = λ l h. ap (in_slot all) (ap (λ ss. slot_at ss l) e ∙ none_at n l) }

set_same : (slots : List (Option ℕ)) (l : ℕ) (slot : Option ℕ) → l < length slots → slot_at (slice_set slots l slot) l ≡ slot
set_same [] l slot h = absurd (omega (arith, h))
set_same (s ∷ slots) zero slot h = refl
set_same (s ∷ slots) (suc l) slot h = set_same slots l slot (omega (arith, h))

set_other : (slots : List (Option ℕ)) (i l : ℕ) (slot : Option ℕ) → nat_eq i l ≡ false → slot_at (slice_set slots i slot) l ≡ slot_at slots l
set_other [] i l slot e = refl
set_other (s ∷ slots) zero zero slot e = absurd (cc)
set_other (s ∷ slots) zero (suc l) slot e = refl
set_other (s ∷ slots) (suc i) zero slot e = refl
set_other (s ∷ slots) (suc i) (suc l) slot e = set_other slots i l slot (let f : nat_eq i l ≡ nat_eq (suc i) (suc l) = grind arith in f ∙ e)

-- ---- One function more

of_label_more : (all : List Layout) (n : ℕ) (ls : List Layout) (l : Layout) → of_label all n (ls ++ l ∷ []) ≡ of_label all n ls ++ cond (nat_eq (label_in all l.point) n) (l ∷ []) []
of_label_more all n [] l = refl
of_label_more all n (k ∷ ls) l = by (nat_eq (label_in all k.point) n) (of_label_more all n ls l)
  where
    by : (b : Bool) → of_label all n (ls ++ l ∷ []) ≡ of_label all n ls ++ cond (nat_eq (label_in all l.point) n) (l ∷ []) [] → cond b (k ∷ of_label all n (ls ++ l ∷ [])) (of_label all n (ls ++ l ∷ [])) ≡ cond b (k ∷ of_label all n ls) (of_label all n ls) ++ cond (nat_eq (label_in all l.point) n) (l ∷ []) []
    by true e = ap (λ ks. k ∷ ks) e
    by false e = e

of_label_none : (all : List Layout) (n : ℕ) (ls : List Layout) → ((k : Layout) → IsAmong k ls → nat_eq (label_in all k.point) n ≡ false) → of_label all n ls ≡ []
of_label_none all n [] h = refl
of_label_none all n (k ∷ ls) h =
    ap (λ b. cond b (k ∷ of_label all n ls) (of_label all n ls)) (h k (inl refl)) ∙ of_label_none all n ls (λ j m. h j (inr m))

pub among_at : (ls : List Layout) (i : ℕ) (d : Layout) → i < length ls → IsAmong (slice_index_or ls i d) ls
among_at [] i d h = absurd (omega (arith, h))
among_at (l ∷ ls) zero d h = inl refl
among_at (l ∷ ls) (suc i) d h = inr (among_at ls i d (omega (arith, h)))

among_taken : (ls : List Layout) (i : ℕ) (k : Layout) → IsAmong k (take i ls) → IsAmong k ls
among_taken ls zero k m = absurd m
among_taken [] (suc i) k m = absurd m
among_taken (l ∷ ls) (suc i) k (inl e) = inl e
among_taken (l ∷ ls) (suc i) k (inr m) = inr (among_taken ls i k m)

apart_before : (ls : List Layout) (i : ℕ) (d k : Layout) → AreApart ls → i < length ls → IsAmong k (take i ls) → is_point (slice_index_or ls i d).point k.point ≡ false
apart_before ls zero d k a h m = absurd m
apart_before [] (suc i) d k a h m = absurd m
apart_before (l ∷ ls) (suc i) d k a h (inl e) =
    subst (λ (j : Layout). is_point (slice_index_or ls i d).point j.point ≡ false) (sym e) (a.0 (slice_index_or ls i d) (among_at ls i d (omega (arith, h))))
apart_before (l ∷ ls) (suc i) d k a h (inr m) = apart_before ls i d k a.1 (omega (arith, h)) m

pub slot_more : (all : List Layout) (i label number n : ℕ) (d : Layout) (slots new : List (Option ℕ)) → AreApart all → i < length all → label ≡ label_in all (slice_index_or all i d).point → number ≡ i → new ≡ slice_set slots label (Some number) → AreSlots all (take i all) n slots → AreSlots all (take (i + 1) all) n new
slot_more all i label number n d slots new apart lt e f g a =
    let next : suc i ≡ i + 1 = omega arith in
    subst (λ k. AreSlots all (take k all) n new) next
    (subst (λ ls. AreSlots all ls n new) (sym (take-suc all i d lt))
    (record {
      len = ap length g ∙ length-set slots label (Some number) ∙ a.len;
      at = λ m h. ap (λ ss. in_slot all (slot_at ss m)) g ∙ by m h (nat_eq label m) refl ∙ sym (of_label_more all m (take i all) l);
    }))
  where
    l : Layout
    l = slice_index_or all i d

    differ : (k : Layout) → IsAmong k (take i all) → nat_eq (label_in all k.point) label ≡ false
    differ k m = case (nat_eq (label_in all k.point) label) refl
      where
        case : (b : Bool) → nat_eq (label_in all k.point) label ≡ b → nat_eq (label_in all k.point) label ≡ false
        case false q = q
        case true q =
            absurd (let one : is_point (slice_index_or all i d).point k.point ≡ true = one_point all (slice_index_or all i d) k (among_at all i d lt) (among_taken all i k m) (sym (eqb-true (label_in all k.point) label q ∙ e)) in
            let two : is_point (slice_index_or all i d).point k.point ≡ false = apart_before all i d k apart lt m in
            let no_way : true ≡ false = sym one ∙ two in cc)

    by : (m : ℕ) → m < n → (b : Bool) → nat_eq label m ≡ b → in_slot all (slot_at (slice_set slots label (Some number)) m) ≡ of_label all m (take i all) ++ cond (nat_eq (label_in all (slice_index_or all i d).point) m) (slice_index_or all i d ∷ []) []
    by m h true q =
        let same : label ≡ m = eqb-true label m q in
        let within : label < length slots = (let len = a.len in omega (arith, h, same, len)) in
        ap (λ j. in_slot all (slot_at (slice_set slots label (Some number)) j)) (sym same)
        ∙ ap (in_slot all) (set_same slots label (Some number) within)
        ∙ ap (λ j. at_number (slice_get all j)) f
        ∙ ap at_number (slice_get-get_or all i d lt)
        ∙ sym (ap (λ ks. ks ++ slice_index_or all i d ∷ []) (of_label_none all label (take i all) differ))
        ∙ ap (λ j. of_label all j (take i all) ++ slice_index_or all i d ∷ []) same
        ∙ sym (ap (λ b. of_label all m (take i all) ++ cond b (slice_index_or all i d ∷ []) []) (ap (λ j. nat_eq j m) (sym e) ∙ q))
    by m h false q =
        ap (in_slot all) (set_other slots label m (Some number) q)
        ∙ a.at m h
        ∙ sym (append-nil (of_label all m (take i all)))
        ∙ sym (ap (λ b. of_label all m (take i all) ++ cond b (slice_index_or all i d ∷ []) []) (ap (λ j. nat_eq j m) (sym e) ∙ q))

-- ---- The functions in slots

numbered_more : (all : List Layout) (is : List ℕ) (i : ℕ) → numbered all (is ++ i ∷ []) ≡ numbered all is ++ at_number (slice_get all i)
numbered_more all [] i = append-nil (at_number (slice_get all i))
numbered_more all (j ∷ is) i = ap (λ ks. at_number (slice_get all j) ++ ks) (numbered_more all is i) ∙ sym (append_assoc (at_number (slice_get all j)) (numbered all is) (at_number (slice_get all i)))

in_slots_more : (all : List Layout) (slots : List (Option ℕ)) (slot : Option ℕ) → in_slots all (slots ++ slot ∷ []) ≡ in_slots all slots ++ in_slot all slot
in_slots_more all [] slot = append-nil (in_slot all slot)
in_slots_more all (s ∷ slots) slot = ap (λ ks. in_slot all s ++ ks) (in_slots_more all slots slot) ∙ sym (append_assoc (in_slot all s) (in_slots all slots) (in_slot all slot))

taken : {X : Type 0} (xs : List X) (i : ℕ) (d : X) → i < length xs → take (i + 1) xs ≡ take i xs ++ slice_index_or xs i d ∷ []
taken xs i d lt = let next : i + 1 ≡ suc i = omega arith in ap (λ k. take k xs) next ∙ take-suc xs i d lt

slot_pushed : (all : List Layout) (is : List ℕ) (slot : Option ℕ) → numbered all (is ++ of_slot slot) ≡ numbered all is ++ in_slot all slot
slot_pushed all is None = ap (numbered all) (append-nil is) ∙ sym (append-nil (numbered all is))
slot_pushed all is (Some i) = numbered_more all is i

pub slot_taken : (all : List Layout) (slots : List (Option ℕ)) (j : ℕ) (d : Option ℕ) (order new : List ℕ) → j < length slots → numbered all order ≡ in_slots all (take j slots) → new ≡ order ++ of_slot (slice_index_or slots j d) → numbered all new ≡ in_slots all (take (j + 1) slots)
slot_taken all slots j d order new lt h g =
    let slot = slice_index_or slots j d in
    ap (numbered all) g ∙ slot_pushed all order slot ∙ ap (λ ks. ks ++ in_slot all slot) h
    ∙ sym (in_slots_more all (take j slots) slot) ∙ ap (in_slots all) (sym (taken slots j d lt))

from : (all : List Layout) (slots : List (Option ℕ)) (m : ℕ) → ((l : ℕ) → l < length slots → in_slot all (slot_at slots l) ≡ of_label all (m + l) all) → in_slots all slots ≡ by_label_from all m (length slots) all
from all [] m h = refl
from all (s ∷ slots) m h =
    let here : m + 0 ≡ m = omega arith in
    ap (λ ks. ks ++ in_slots all slots) (h 0 (omega arith) ∙ ap (λ k. of_label all k all) here)
    ∙ ap (λ ks. of_label all m all ++ ks) (from all slots (suc m) (λ l k. h (suc l) (omega (arith, k)) ∙ (let next : m + suc l ≡ suc m + l = omega arith in ap (λ j. of_label all j all) next)))

pub in_order_are : (all : List Layout) (slots : List (Option ℕ)) → AreSlots all all (length all) slots → in_slots all slots ≡ by_label_from all 0 (length all) all
in_order_are all slots a =
    from all slots 0 (λ l h. a.at l (subst (λ n. l < n) a.len h) ∙ (let same : l ≡ 0 + l = omega arith in ap (λ j. of_label all j all) same))
    ∙ ap (λ n. by_label_from all 0 n all) a.len

pub point_more : (all : List Layout) (order : List ℕ) (j d : ℕ) (points new : List Point) → j < length order → points ≡ points_in (numbered all (take j order)) → new ≡ points ++ points_in (at_number (slice_get all (slice_index_or order j d))) → new ≡ points_in (numbered all (take (j + 1) order))
point_more all order j d points new lt h g =
    let i = slice_index_or order j d in
    g ∙ ap (λ ps. ps ++ points_in (at_number (slice_get all i))) h
    ∙ sym (map-append (λ (l : Layout). l.point) (numbered all (take j order)) (at_number (slice_get all i)))
    ∙ ap points_in (sym (numbered_more all (take j order) i) ∙ ap (numbered all) (sym (taken order j d lt)))
