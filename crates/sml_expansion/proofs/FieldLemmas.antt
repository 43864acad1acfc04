-- Fields and their slots.
use Rattle.std.proofs.Common.{◌≡◌, ◌<◌, ◌≤◌, ◌+◌, ◌-◌, Bool, true, false, cond, ℕ, zero, suc, ℤ, pos, List, [], ◌∷◌, ◌++◌, Some, slice_get, length, get_or, map, take, refl, sym, ap, ◌∙◌, arith, ◌⊎◌, inl, inr}
use Rattle.std.specs.Prelude.{not, nat_eq, ◌||◌, count_by, if◌then◌else◌}
use Rattle.std.specs.List.{list_any}
use Rattle.std.proofs.lemmas.Bool.{eq-eqb, ne_eqb, lt-ltb, le-ltb, cases_lt}
use Rattle.std.proofs.lemmas.List.{append-nil, append_assoc, map-append, take_more}
use Rattle.smlc_base.specs.declared.place.Place.{Place}
use Rattle.smlc_base.specs.declared.refusal.Refusal.TheVariants as refusal
use Rattle.sml_tree.specs.IsBare.{lab_less}
use Rattle.sml_tree.specs.declared.bare.Lab.{Lab}
use Rattle.sml_tree.specs.declared.bare.Lab.TheVariants.{Num}
use Rattle.sml_tree.specs.declared.bare.Field.{Field}
use Rattle.sml_tree.specs.declared.bare.TypeField.{TypeField}
use Rattle.sml_expansion.specs.Labels.{slot, lab_eq, numbers, doubles}
use Rattle.sml_expansion.specs.Types.{labs_of, fields_of, type_fields}
use Rattle.sml_expansion.specs.Bare.{fields}
use Rattle.sml_expansion.specs.Fields.{slot_placed, slotted, typed}
use Rattle.sml_expansion.proofs.OrderLemmas.{counted, lab_one_way, lab_chain}

-- lists that end
slotted_none : (slots : List ℕ) → slotted slots [] ≡ []
slotted_none [] = refl
slotted_none (s ∷ slots) = refl

pub all_slotted : (done : List Field) (slots : List ℕ) (left : List (Lab × Place)) → left ≡ [] → done ++ slotted slots left ≡ done
all_slotted done slots left e = ap (λ l. done ++ slotted slots l) e ∙ ap (λ l. done ++ l) (slotted_none slots) ∙ append-nil done

pub all_typed : (done : List TypeField) (left : List Field) (types : List ℕ) → left ≡ [] → done ++ typed left types ≡ done
all_typed done left types e = ap (λ l. done ++ typed l types) e ∙ append-nil done

no_types : (left : List Field) (types : List ℕ) → length types < 1 → typed left types ≡ []
no_types [] types h = refl
no_types (f ∷ left) [] h = refl
no_types (f ∷ left) (t ∷ types) h = absurd (omega (arith, h))

pub typed_stops : (done : List TypeField) (left less : List Field) (types : List ℕ) (whole : List TypeField) → length types < 1 → done ++ typed left types ≡ whole → done ++ typed less types ≡ whole
typed_stops done left less types whole h e = ap (λ l. done ++ l) (no_types less types h ∙ sym (no_types left types h)) ∙ e

-- slots of all labels
slotted_each : (all : List Lab) (labs : List (Lab × Place)) → slotted (map (slot all) (labs_of labs)) labs ≡ map (λ l. record { lab = l; slot = slot all l; node = 0 }) (labs_of labs)
slotted_each all [] = refl
slotted_each all (l ∷ labs) = ap (λ fs. record { lab = l.0; slot = slot all l.0; node = 0 } ∷ fs) (slotted_each all labs)

pub slotted_all : (labs : List (Lab × Place)) (slots : List ℕ) → slots ≡ map (slot (labs_of labs)) (labs_of labs) → slotted slots labs ≡ fields (labs_of labs)
slotted_all labs slots e = ap (λ s. slotted s labs) e ∙ slotted_each (labs_of labs) labs

typed_each : (all labs : List Lab) (types : List ℕ) → typed (map (λ l. record { lab = l; slot = slot all l; node = 0 }) labs) types ≡ fields_of all labs types
typed_each all [] types = refl
typed_each all (l ∷ labs) [] = refl
typed_each all (l ∷ labs) (t ∷ types) = ap (λ fs. record { lab = l; slot = slot all l; ty = t } ∷ fs) (typed_each all labs types)

pub typed_all : (labs : List Lab) (types : List ℕ) (row : List Field) → row ≡ fields labs → typed row types ≡ type_fields labs types
typed_all labs types row e = ap (λ f. typed f types) e ∙ typed_each labs labs types

-- The labels 1, 2 and so on stand at 0, 1 and so on.
abbrev number_lab : ℕ → Lab
number_lab i = Num (pos (suc i))

below : (i j : ℕ) → i < j → lab_less (number_lab i) (number_lab j) ≡ true
below i j h = lt-ltb (suc i) (suc j) (omega (arith, h))

not_below : (i j : ℕ) → j ≤ i → lab_less (number_lab i) (number_lab j) ≡ false
not_below i j h = le-ltb (suc i) (suc j) (omega (arith, h))

above : (j n i : ℕ) → i ≤ j → count_by (λ o. lab_less o (number_lab i)) (numbers j n) ≡ 0
above j zero i h = refl
above j (suc n) i h =
    let first : cond {A = ℕ} (lab_less (number_lab j) (number_lab i)) 1 0 ≡ 0 = ap (λ b. cond {A = ℕ} b 1 0) (not_below j i h) in
    let rest : count_by (λ o. lab_less o (number_lab i)) (numbers (suc j) n) ≡ 0 = above (suc j) n i (omega (arith, h)) in
    let all : count_by (λ o. lab_less o (number_lab i)) (numbers j (suc n)) ≡ cond {A = ℕ} (lab_less (number_lab j) (number_lab i)) 1 0 + count_by (λ o. lab_less o (number_lab i)) (numbers (suc j) n) = counted (λ o. lab_less o (number_lab i)) (number_lab j) (numbers (suc j) n) in
    omega (arith, first, rest, all)

among : (j n i : ℕ) → j ≤ i → i < j + n → count_by (λ o. lab_less o (number_lab i)) (numbers j n) ≡ i - j
among j zero i h w = absurd (omega (arith, h, w))
among j (suc n) i h w = step (cases_lt j i) (λ l. among (suc j) n i (omega (arith, l)) (omega (arith, w)))
  where
    all : count_by (λ o. lab_less o (number_lab i)) (numbers j (suc n)) ≡ cond {A = ℕ} (lab_less (number_lab j) (number_lab i)) 1 0 + count_by (λ o. lab_less o (number_lab i)) (numbers (suc j) n)
    all = counted (λ o. lab_less o (number_lab i)) (number_lab j) (numbers (suc j) n)

    step : (j < i) ⊎ (i ≤ j) → (j < i → count_by (λ o. lab_less o (number_lab i)) (numbers (suc j) n) ≡ i - suc j) → count_by (λ o. lab_less o (number_lab i)) (numbers j (suc n)) ≡ i - j
    step (inl l) r =
        let first : cond {A = ℕ} (lab_less (number_lab j) (number_lab i)) 1 0 ≡ 1 = ap (λ b. cond {A = ℕ} b 1 0) (below j i l) in
        let rest : count_by (λ o. lab_less o (number_lab i)) (numbers (suc j) n) ≡ i - suc j = r l in
        let a = all in
        omega (arith, first, rest, a, l)
    step (inr l) r =
        let first : cond {A = ℕ} (lab_less (number_lab j) (number_lab i)) 1 0 ≡ 0 = ap (λ b. cond {A = ℕ} b 1 0) (not_below j i l) in
        let rest : count_by (λ o. lab_less o (number_lab i)) (numbers (suc j) n) ≡ 0 = above (suc j) n i (omega (arith, l)) in
        let a = all in
        omega (arith, first, rest, a, l)

pub number_slot : (n i : ℕ) → i < n → slot (numbers 0 n) (number_lab i) ≡ i
number_slot n i h = let a : count_by (λ o. lab_less o (number_lab i)) (numbers 0 n) ≡ i - 0 = among 0 n i (omega arith) (omega (arith, h)) in omega (arith, a)

-- one more field of a tuple
pub tuple_more : (n i : ℕ) (row now : List Field) (z : ℤ) → i < n → z ≡ pos (suc i) → row ++ map (λ l. record { lab = l; slot = slot (numbers 0 n) l; node = 0 }) (numbers i (n - i)) ≡ fields (numbers 0 n) → now ≡ row ++ record { lab = Num z; slot = i; node = 0 } ∷ []
    → now ++ map (λ l. record { lab = l; slot = slot (numbers 0 n) l; node = 0 }) (numbers (i + 1) (n - (i + 1))) ≡ fields (numbers 0 n)
tuple_more n i row now z h e w g =
    let f : Lab → Field = λ l. record { lab = l; slot = slot (numbers 0 n) l; node = 0 } in
    let left : n - i ≡ suc (n - suc i) = omega (arith, h) in
    let next : i + 1 ≡ suc i = omega arith in
    ap (λ r. r ++ map f (numbers (i + 1) (n - (i + 1)))) g
    ∙ append_assoc row (record { lab = Num z; slot = i; node = 0 } ∷ []) (map f (numbers (i + 1) (n - (i + 1))))
    ∙ ap (λ k. row ++ record { lab = Num z; slot = i; node = 0 } ∷ map f (numbers k (n - k))) next
    ∙ ap (λ v. row ++ record { lab = Num v; slot = i; node = 0 } ∷ map f (numbers (suc i) (n - suc i))) e
    ∙ ap (λ s. row ++ record { lab = number_lab i; slot = s; node = 0 } ∷ map f (numbers (suc i) (n - suc i))) (sym (number_slot n i h))
    ∙ ap (λ m. row ++ map f (numbers i m)) (sym left)
    ∙ w

pub tuple_done : (n i : ℕ) (row : List Field) → n ≤ i → row ++ map (λ l. record { lab = l; slot = slot (numbers 0 n) l; node = 0 }) (numbers i (n - i)) ≡ fields (numbers 0 n) → row ≡ fields (numbers 0 n)
tuple_done n i row h w =
    let z : n - i ≡ 0 = omega (arith, h) in
    sym (append-nil row) ∙ ap (λ m. row ++ map (λ l. record { lab = l; slot = slot (numbers 0 n) l; node = 0 }) (numbers i m)) (sym z) ∙ w

-- Labels are equal where their slots are.
irreflexive : (x : Lab) → lab_less x x ≡ false
irreflexive x = step (lab_less x x) refl
  where
    step : (b : Bool) → lab_less x x ≡ b → lab_less x x ≡ false
    step true e = lab_one_way x x e
    step false e = e

-- what comes before x comes before y, if y isn't before x
carried : (o x y : Lab) → lab_less y x ≡ false → lab_less o x ≡ true → lab_less o y ≡ true
carried o x y n t = step (lab_less o y) refl
  where
    step : (b : Bool) → lab_less o y ≡ b → lab_less o y ≡ true
    step true e = e
    step false e = let f : lab_less o x ≡ false = lab_chain o y x e n in cc

abbrev bit : Bool → ℕ
bit b = cond b 1 0

bit_le : (o x y : Lab) → lab_less y x ≡ false → bit (lab_less o x) ≤ bit (lab_less o y)
bit_le o x y n = step (lab_less o x) refl
  where
    step : (b : Bool) → lab_less o x ≡ b → bit (lab_less o x) ≤ bit (lab_less o y)
    step true e =
        let a : bit (lab_less o x) ≡ 1 = ap bit e in
        let b : bit (lab_less o y) ≡ 1 = ap bit (carried o x y n e) in
        omega (arith, a, b)
    step false e = let a : bit (lab_less o x) ≡ 0 = ap bit e in omega (arith, a)

slots_le : (all : List Lab) (x y : Lab) → lab_less y x ≡ false → slot all x ≤ slot all y
slots_le [] x y n = omega arith
slots_le (o ∷ all) x y n =
    let a : slot (o ∷ all) x ≡ bit (lab_less o x) + slot all x = counted (λ z. lab_less z x) o all in
    let b : slot (o ∷ all) y ≡ bit (lab_less o y) + slot all y = counted (λ z. lab_less z y) o all in
    let c : bit (lab_less o x) ≤ bit (lab_less o y) = bit_le o x y n in
    let d : slot all x ≤ slot all y = slots_le all x y n in
    omega (arith, a, b, c, d)

slots_lt : (all : List Lab) (x y : Lab) (k : ℕ) → slice_get all k ≡ Some x → lab_less x y ≡ true → slot all x < slot all y
slots_lt [] x y zero g t = cc
slots_lt [] x y (suc k) g t = cc
slots_lt (o ∷ all) x y zero g t =
    let same : o ≡ x = cc in
    let a : slot (o ∷ all) x ≡ bit (lab_less o x) + slot all x = counted (λ z. lab_less z x) o all in
    let b : slot (o ∷ all) y ≡ bit (lab_less o y) + slot all y = counted (λ z. lab_less z y) o all in
    let c : bit (lab_less o x) ≡ 0 = ap (λ v. bit (lab_less v x)) same ∙ ap bit (irreflexive x) in
    let e : bit (lab_less o y) ≡ 1 = ap (λ v. bit (lab_less v y)) same ∙ ap bit t in
    let d : slot all x ≤ slot all y = slots_le all x y (lab_one_way x y t) in
    omega (arith, a, b, c, d, e)
slots_lt (o ∷ all) x y (suc k) g t =
    let a : slot (o ∷ all) x ≡ bit (lab_less o x) + slot all x = counted (λ z. lab_less z x) o all in
    let b : slot (o ∷ all) y ≡ bit (lab_less o y) + slot all y = counted (λ z. lab_less z y) o all in
    let c : bit (lab_less o x) ≤ bit (lab_less o y) = bit_le o x y (lab_one_way x y t) in
    let d : slot all x < slot all y = slots_lt all x y k g t in
    omega (arith, a, b, c, d)

eq_slots : (all : List Lab) (x y : Lab) (j k : ℕ) → slice_get all j ≡ Some x → slice_get all k ≡ Some y → lab_eq x y ≡ nat_eq (slot all x) (slot all y)
eq_slots all x y j k g h = step (lab_less x y) (lab_less y x) refl refl
  where
    step : (a b : Bool) → lab_less x y ≡ a → lab_less y x ≡ b → lab_eq x y ≡ nat_eq (slot all x) (slot all y)
    step true b e f =
        let l : slot all x < slot all y = slots_lt all x y j g e in
        ap (λ v. not (v || lab_less y x)) e ∙ sym (ne_eqb (slot all x) (slot all y) (λ s. omega (arith, l, s)))
    step false true e f =
        let l : slot all y < slot all x = slots_lt all y x k h f in
        ap (λ v. not (v || lab_less y x)) e ∙ ap not f ∙ sym (ne_eqb (slot all x) (slot all y) (λ s. omega (arith, l, s)))
    step false false e f =
        let l : slot all x ≤ slot all y = slots_le all x y f in
        let m : slot all y ≤ slot all x = slots_le all y x e in
        ap (λ v. not (v || lab_less y x)) e ∙ ap not f ∙ sym (eq-eqb (slot all x) (slot all y) (omega (arith, l, m)))

-- labels that stand among all
abbrev AllIn : List Lab → List Lab → Type 0
AllIn all [] = Unit {0}
AllIn all (x ∷ xs) = ((k : ℕ) × (slice_get all k ≡ Some x)) × AllIn all xs

any_slots : (all seen : List Lab) (x : Lab) (k : ℕ) → slice_get all k ≡ Some x → AllIn all seen → list_any (lab_eq x) seen ≡ list_any (nat_eq (slot all x)) (map (slot all) seen)
any_slots all [] x k g i = refl
any_slots all (y ∷ seen) x k g i =
    ap (λ b. b || list_any (lab_eq x) seen) (eq_slots all x y k i.0.0 g i.0.1)
    ∙ ap (λ b. nat_eq (slot all x) (slot all y) || b) (any_slots all seen x k g i.1)

doubles_slots : (all seen : List Lab) (labs : List (Lab × Place)) → AllIn all seen → AllIn all (labs_of labs) → doubles lab_eq seen labs ≡ doubles nat_eq (map (slot all) seen) (map (slot_placed all) labs)
doubles_slots all seen [] i w = refl
doubles_slots all seen (l ∷ labs) i w =
    ap (λ b. (if b then refusal.BadBinding l.1 ∷ [] else []) ++ doubles lab_eq (l.0 ∷ seen) labs) (any_slots all seen l.0 w.0.0 w.0.1 i)
    ∙ ap (λ r. (if list_any (nat_eq (slot all l.0)) (map (slot all) seen) then refusal.BadBinding l.1 ∷ [] else []) ++ r) (doubles_slots all (l.0 ∷ seen) labs (w.0, i) w.1)

at_seam : (xs : List Lab) (y : Lab) (ys : List Lab) → slice_get (xs ++ y ∷ ys) (length xs) ≡ Some y
at_seam [] y ys = refl
at_seam (x ∷ xs) y ys = at_seam xs y ys

all_in : (front rest all : List Lab) → all ≡ front ++ rest → AllIn all rest
all_in front [] all e = tt
all_in front (x ∷ rest) all e =
    ((length front, ap (λ l. slice_get l (length front)) e ∙ at_seam front x rest), all_in (front ++ x ∷ []) rest all (e ∙ sym (append_assoc front (x ∷ []) rest)))

pub doubles_by_slots : (labs : List (Lab × Place)) (keys : List (ℕ × Place)) → keys ≡ map (slot_placed (labs_of labs)) labs → doubles nat_eq [] keys ≡ doubles lab_eq [] labs
doubles_by_slots labs keys e = ap (doubles nat_eq []) e ∙ sym (doubles_slots (labs_of labs) [] labs tt (all_in [] (labs_of labs) (labs_of labs) refl))

-- one more slot with its place
pub slots_placed_more : (labs : List (Lab × Place)) (all : List Lab) (i n : ℕ) (p : Place) (y : Lab × Place) (slots now : List (ℕ × Place)) → i < length labs → y ≡ get_or labs i y → slots ≡ map (slot_placed all) (take i labs) → n ≡ slot all y.0 → p ≡ y.1 → now ≡ slots ++ (n, p) ∷ []
    → now ≡ map (slot_placed all) (take (i + 1) labs)
slots_placed_more labs all i n p y slots now h at e f q g =
    g
    ∙ ap (λ m. slots ++ (m, p) ∷ []) f
    ∙ ap (λ m. slots ++ (slot all y.0, m) ∷ []) q
    ∙ ap (λ l. l ++ slot_placed all y ∷ []) e
    ∙ sym (map-append (slot_placed all) (take i labs) (y ∷ []))
    ∙ ap (map (slot_placed all)) (sym (take_more labs i y h ∙ ap (λ x. take i labs ++ x ∷ []) (sym at)))
