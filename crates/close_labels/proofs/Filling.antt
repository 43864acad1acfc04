-- Slots with numbers, and slots with functions.
use Rattle.std.proofs.Common.{◌≡◌, ℕ, zero, suc, ◌+◌, ◌<◌, ◌≤◌, List, [], ◌∷◌, ◌++◌, Option, Some, None, length, map, drop, take, replicate, slice_get, slice_set, refl, sym, ap, ◌∙◌, arith}
use Rattle.std.specs.Prelude.{slice_index_or}
use Rattle.std.specs.Borrow.{Bor}
use Rattle.std.proofs.Math.Seq.{take-suc}
use Rattle.cps_ir.specs.declared.body.Function.{Function as Entry}
use Rattle.closure_ir.specs.declared.body.Function.{Function}
use Rattle.close_steps.specs.declared.decisions.Decision.{Decision}
use Rattle.close_steps.specs.declared.decisions.Decisions.{Decisions}
use Rattle.close_steps.specs.Visible.{decided}
use Rattle.close_labels.specs.Slots.{routine_by, fill_one, fill, of_slot, of_slots, slot_in}

abbrev pub now : List (Bor Entry) → List Entry
now fs = map (λ (f : Bor Entry). f.now) fs

set_slots : (fs : List Entry) (slots : List (Option ℕ)) (l i : ℕ) → map (slot_in fs) (slice_set slots l (Some i)) ≡ slice_set (map (slot_in fs) slots) l (slice_get fs i)
set_slots fs [] l i = refl
set_slots fs (s ∷ slots) zero i = refl
set_slots fs (s ∷ slots) (suc l) i = ap (λ ss. slot_in fs s ∷ ss) (set_slots fs slots l i)

one_filled : (fs : List Entry) (slots : List (Option ℕ)) (i : ℕ) (f : Entry) (o : Option Decision) → slice_get fs i ≡ Some f → map (slot_in fs) (fill_one slots i o) ≡ fill_one (map (slot_in fs) slots) f o
one_filled fs slots i f None e = refl
one_filled fs slots i f (Some k) e = set_slots fs slots k.label.0 i ∙ ap (slice_set (map (slot_in fs) slots) k.label.0) e

front : (fs : List Entry) (i : ℕ) (f : Entry) → slice_get fs i ≡ Some f → drop i fs ≡ f ∷ drop (suc i) fs
front [] i f e = absurd (cc)
front (g ∷ fs) zero f e = let o : g ≡ f = cc in ap (λ h. h ∷ fs) o
front (g ∷ fs) (suc i) f e = front fs i f e

pub found_now : (fs : List (Bor Entry)) (i : ℕ) (d : Bor Entry) → i < length fs → slice_get (now fs) i ≡ Some (slice_index_or fs i d).now
found_now [] i d h = absurd (omega (arith, h))
found_now (f ∷ fs) zero d h = refl
found_now (f ∷ fs) (suc i) d h = found_now fs i d (omega (arith, h))

pub one_more : (d : Decisions) (fs : List Entry) (i number : ℕ) (f : Entry) (slots new : List (Option ℕ)) (all : List (Option Entry)) → number ≡ i → slice_get fs i ≡ Some f → new ≡ fill_one slots number (decided d f.name) → fill d (map (slot_in fs) slots) (drop i fs) ≡ all → fill d (map (slot_in fs) new) (drop (i + 1) fs) ≡ all
one_more d fs i number f slots new all n e g h =
    ap (λ ss. fill d (map (slot_in fs) ss) (drop (i + 1) fs)) (g ∙ ap (λ j. fill_one slots j (decided d f.name)) n)
    ∙ ap (λ ss. fill d ss (drop (i + 1) fs)) (one_filled fs slots i f (decided d f.name) e)
    ∙ sym (ap (fill d (map (slot_in fs) slots)) (front fs i f e ∙ (let up : suc i ≡ i + 1 = omega arith in ap (λ j. f ∷ drop j fs) up))) ∙ h

past : (fs : List Entry) (i : ℕ) → length fs ≤ i → drop i fs ≡ []
past [] zero h = refl
past [] (suc i) h = refl
past (f ∷ fs) zero h = absurd (omega (arith, h))
past (f ∷ fs) (suc i) h = past fs i (omega (arith, h))

length_now : (fs : List (Bor Entry)) → length (now fs) ≡ length fs
length_now [] = refl
length_now (f ∷ fs) = ap suc (length_now fs)

pub all_filled : (d : Decisions) (fs : List (Bor Entry)) (i : ℕ) (slots all : List (Option Entry)) → length fs ≤ i → fill d slots (drop i (now fs)) ≡ all → slots ≡ all
all_filled d fs i slots all h e = ap (fill d slots) (sym (past (now fs) i (let n = length_now fs in omega (arith, h, n)))) ∙ e

empty : (fs : List Entry) (n : ℕ) → map (slot_in fs) (replicate n None) ≡ replicate n None
empty fs zero = refl
empty fs (suc n) = ap (λ ss. None ∷ ss) (empty fs n)

pub none_filled : (d : Decisions) (fs gs : List Entry) (n : ℕ) (slots : List (Option ℕ)) → slots ≡ replicate n None → fill d (map (slot_in fs) slots) gs ≡ fill d (replicate n None) gs
none_filled d fs gs n slots e = ap (λ ss. fill d (map (slot_in fs) ss) gs) e ∙ ap (λ ss. fill d ss gs) (empty fs n)

append_slots : (xs ys : List (Option Entry)) → of_slots (xs ++ ys) ≡ of_slots xs ++ of_slots ys
append_slots [] ys = refl
append_slots (x ∷ xs) ys = ap (λ zs. of_slot x ++ zs) (append_slots xs ys) ∙ sym (assoc (of_slot x) (of_slots xs) (of_slots ys))
  where
    assoc : (a b c : List Entry) → (a ++ b) ++ c ≡ a ++ (b ++ c)
    assoc [] b c = refl
    assoc (x ∷ xs) b c = ap (λ zs. x ∷ zs) (assoc xs b c)

map_append : {A B : Type 0} (f : A → B) (xs ys : List A) → map f (xs ++ ys) ≡ map f xs ++ map f ys
map_append f [] ys = refl
map_append f (x ∷ xs) ys = ap (λ zs. f x ∷ zs) (map_append f xs ys)

append_none : {A : Type 0} (xs : List A) → xs ++ [] ≡ xs
append_none [] = refl
append_none (x ∷ xs) = ap (λ ys. x ∷ ys) (append_none xs)

pub slot_more : (fs : List Entry) (slots : List (Option ℕ)) (i : ℕ) (d : Option ℕ) (old new : List Function) → i < length slots → old ≡ map routine_by (of_slots (map (slot_in fs) (take i slots))) → new ≡ old ++ map routine_by (of_slot (slot_in fs (slice_index_or slots i d))) → new ≡ map routine_by (of_slots (map (slot_in fs) (take (i + 1) slots)))
slot_more fs slots i d old new lt e f =
    let s = slice_index_or slots i d in
    let up : suc i ≡ i + 1 = omega arith in
    let longer : map (slot_in fs) (take (i + 1) slots) ≡ map (slot_in fs) (take i slots) ++ slot_in fs s ∷ [] =
    ap (λ k. map (slot_in fs) (take k slots)) (sym up) ∙ ap (map (slot_in fs)) (take-suc slots i d lt) ∙ map_append (slot_in fs) (take i slots) (s ∷ []) in
    f ∙ ap (λ rs. rs ++ map routine_by (of_slot (slot_in fs s))) e
    ∙ sym (map_append routine_by (of_slots (map (slot_in fs) (take i slots))) (of_slot (slot_in fs s)))
    ∙ ap (λ gs. map routine_by (of_slots (map (slot_in fs) (take i slots)) ++ gs)) (sym (append_none (of_slot (slot_in fs s))))
    ∙ ap (map routine_by) (sym (append_slots (map (slot_in fs) (take i slots)) (slot_in fs s ∷ [])))
    ∙ ap (λ ss. map routine_by (of_slots ss)) (sym longer)

none_there : (fs : List (Bor Entry)) (i : ℕ) → slice_get fs i ≡ None → slice_get (now fs) i ≡ None
none_there [] i e = refl
none_there (f ∷ fs) zero e = absurd (cc)
none_there (f ∷ fs) (suc i) e = none_there fs i e

pub none_now : (fs : List (Bor Entry)) (old : List Function) (slot : Option ℕ) (i : ℕ) → slot ≡ Some i → slice_get fs i ≡ None → old ≡ old ++ map routine_by (of_slot (slot_in (now fs) slot))
none_now fs old slot i e f =
    sym (append_none old) ∙ ap (λ o. old ++ map routine_by (of_slot o)) (sym (none_there fs i f)) ∙ ap (λ o. old ++ map routine_by (of_slot (slot_in (now fs) o))) (sym e)
