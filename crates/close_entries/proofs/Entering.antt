-- What a function's body sees at its beginning is what the definition gives it.
use Rattle.std.proofs.Common.{◌≡◌, ℕ, suc, ◌+◌, Bool, true, false, cond, List, [], ◌∷◌, ◌++◌, Option, Some, None, map, length, refl, sym, ap, ◌∙◌, arith}
use Rattle.std.proofs.Math.Path.{fun_ext}
use Rattle.std.specs.Prelude.{nat_eq}
use Rattle.smlc_base.specs.declared.point.Point.{Point}
use Rattle.cps_ir.specs.Code as cps
use Rattle.closure_ir.specs.Code as closed
use Rattle.closure_ir.specs.declared.operand.Operand.{Operand}
use Rattle.closure_ir.specs.declared.operand.Operand.TheVariants as operand
use Rattle.close_laws.specs.Layouts.{Facts, name_at, class_vars, layout_classes, layout_own, base}
use Rattle.close_laws.specs.Lower.{Places, Hand, itself, placed_all, here_all, lower}
use Rattle.close_laws.specs.Close.{next_place, place_in, or_field, or_through, through_classes, slot_at, static_at, found_at, known, design_of, none_at_hand}
use Rattle.close_scopes.specs.declared.scopes.Bound.{Bound}
use Rattle.close_scopes.specs.Scopes.{over, places_of, hand_of}
use Rattle.close_steps.specs.declared.decisions.Decision.{Decision}
use Rattle.close_steps.specs.declared.decisions.Decisions.{Decisions}
use Rattle.close_steps.specs.Visible.{Have, decided, decision_of, class_members, static_of, unbound, places_in, hand_in}
use Rattle.close_groups.specs.Group.{themselves}
use Rattle.close_entries.specs.Entries.{fields_from, shared_from, through_records, closure_bounds, entered, FunctionsAreEntered}

turned : (a b : ℕ) → nat_eq a b ≡ nat_eq b a
turned a b = grind arith

here_places : (at : Places) (xs : List ℕ) (bs : List Bound) → placed_all (places_of at bs) xs (map itself xs) ≡ places_of at (over (themselves xs) bs)
here_places at [] bs = refl
here_places at (x ∷ xs) bs = here_places at xs _

-- ---- Fields

in_fields : (at : Places) (f n : ℕ) (xs : List ℕ) (bs : List Bound) (x : ℕ) → places_of at (fields_from f n xs ++ bs) x ≡ or_field f n (place_in xs x) (places_of at bs x)
in_fields at f n [] bs x = refl
in_fields at f n (y ∷ ys) bs x =
    ap (λ b. cond b (operand.Path f (n ∷ [])) (places_of at (fields_from f (suc n) ys ++ bs) x)) (turned x y)
    ∙ by (nat_eq y x) (in_fields at f (suc n) ys bs x) (place_in ys x) refl
  where
    further : (m : Option ℕ) → or_field f (suc n) m (places_of at bs x) ≡ or_field f n (next_place m) (places_of at bs x)
    further None = refl
    further (Some i) = let e : suc n + i ≡ n + suc i = omega arith in ap (λ k. operand.Path f (k ∷ [])) e

    by : (b : Bool) → places_of at (fields_from f (suc n) ys ++ bs) x ≡ or_field f (suc n) (place_in ys x) (places_of at bs x) → (m : Option ℕ) → place_in ys x ≡ m → cond b (operand.Path f (n ∷ [])) (places_of at (fields_from f (suc n) ys ++ bs) x) ≡ or_field f n (cond b (Some 0) (next_place (place_in ys x))) (places_of at bs x)
    by true e m p = let g : n ≡ n + 0 = omega arith in ap (λ k. operand.Path f (k ∷ [])) g
    by false e m p = e ∙ further (place_in ys x)

in_slots : (f n : ℕ) (ks : List ℕ) (k : ℕ) → hand_of none_at_hand (fields_from f n ks) k ≡ slot_at f n (place_in ks k)
in_slots f n [] k = refl
in_slots f n (j ∷ ks) k =
    ap (λ b. cond b (Some (operand.Path f (n ∷ []))) (hand_of none_at_hand (fields_from f (suc n) ks) k)) (turned k j)
    ∙ by (nat_eq j k) (in_slots f (suc n) ks k)
  where
    further : (m : Option ℕ) → slot_at f (suc n) m ≡ slot_at f n (next_place m)
    further None = refl
    further (Some i) = let e : suc n + i ≡ n + suc i = omega arith in ap (λ h. Some (operand.Path f (h ∷ []))) e

    by : (b : Bool) → hand_of none_at_hand (fields_from f (suc n) ks) k ≡ slot_at f (suc n) (place_in ks k) → cond b (Some (operand.Path f (n ∷ []))) (hand_of none_at_hand (fields_from f (suc n) ks) k) ≡ slot_at f n (cond b (Some 0) (next_place (place_in ks k)))
    by true e = let g : n ≡ n + 0 = omega arith in ap (λ h. Some (operand.Path f (h ∷ []))) g
    by false e = e ∙ further (place_in ks k)

-- ---- Through records

abbrev or_through_from : ℕ → ℕ → ℕ → Option ℕ → Operand → Operand
or_through_from f j i None o = o
or_through_from f j i (Some k) o = operand.Path f (j ∷ (i + k) ∷ [])

in_shared : (at : Places) (f j i : ℕ) (xs : List ℕ) (bs : List Bound) (x : ℕ) → places_of at (shared_from f j i xs ++ bs) x ≡ or_through_from f j i (place_in xs x) (places_of at bs x)
in_shared at f j i [] bs x = refl
in_shared at f j i (y ∷ ys) bs x =
    ap (λ b. cond b (operand.Path f (j ∷ i ∷ [])) (places_of at (shared_from f j (suc i) ys ++ bs) x)) (turned x y)
    ∙ by (nat_eq y x) (in_shared at f j (suc i) ys bs x)
  where
    further : (m : Option ℕ) → or_through_from f j (suc i) m (places_of at bs x) ≡ or_through_from f j i (next_place m) (places_of at bs x)
    further None = refl
    further (Some k) = let e : suc i + k ≡ i + suc k = omega arith in ap (λ h. operand.Path f (j ∷ h ∷ [])) e

    by : (b : Bool) → places_of at (shared_from f j (suc i) ys ++ bs) x ≡ or_through_from f j (suc i) (place_in ys x) (places_of at bs x) → cond b (operand.Path f (j ∷ i ∷ [])) (places_of at (shared_from f j (suc i) ys ++ bs) x) ≡ or_through_from f j i (cond b (Some 0) (next_place (place_in ys x))) (places_of at bs x)
    by true e = let g : i ≡ i + 0 = omega arith in ap (λ h. operand.Path f (j ∷ h ∷ [])) g
    by false e = e ∙ further (place_in ys x)

from_first : (f j : ℕ) (m : Option ℕ) (o : Operand) → or_through_from f j 0 m o ≡ or_through f j m o
from_first f j None o = refl
from_first f j (Some k) o = let e : 0 + k ≡ k = omega arith in ap (λ h. operand.Path f (j ∷ h ∷ [])) e

in_classes : (d : Decisions) (members : ℕ → List ℕ) → ((k : ℕ) → class_members d k ≡ members k) → (at : Places) (f j : ℕ) (ks : List ℕ) (x : ℕ) → places_of at (through_records d f j ks) x ≡ through_classes f j members ks x (at x)
in_classes d members same at f j [] x = refl
in_classes d members same at f j (k ∷ ks) x =
    in_shared at f j 0 (class_members d k) (through_records d f (suc j) ks) x
    ∙ from_first f j (place_in (class_members d k) x) (places_of at (through_records d f (suc j) ks) x)
    ∙ ap (λ xs. or_through f j (place_in xs x) (places_of at (through_records d f (suc j) ks) x)) (same k)
    ∙ ap (or_through f j (place_in (members k) x)) (in_classes d members same at f (suc j) ks x)

-- ---- A function's body

module _ (A : Facts) (d : Decisions) (have : Have (design_of A) d) (p : Point) where
  by_point : (q : Option Point) → static_of (decision_of (design_of A) q) ≡ static_at A q
  by_point None = refl
  by_point (Some q) = refl

  static_same : (x : ℕ) → static_of (decided d x) ≡ static_at A (known A x)
  static_same x = ap static_of (have.functions x) ∙ by_point (known A x)

  -- what is decided of the function of this point
  abbrev it : Decision
  it = record { label = record { 0 = (design_of A).label p }; is_static = (design_of A).static p; has_code = (design_of A).code p; classes = (design_of A).classes p; own = (design_of A).own p }

  inside : (f x : ℕ) → places_of (unbound d false) (closure_bounds d f it) x ≡ found_at A p f x
  inside f x =
      ap (λ b. cond b (operand.Path f []) (places_of (unbound d false) (fields_from f (base A p + length (layout_classes A p)) (layout_own A p) ++ through_records d f (base A p) (layout_classes A p)) x)) (turned x f)
      ∙ ap (cond (nat_eq f x) (operand.Path f []))
      (in_fields (unbound d false) f (base A p + length (layout_classes A p)) (layout_own A p) (through_records d f (base A p) (layout_classes A p)) x
      ∙ ap (or_field f (base A p + length (layout_classes A p)) (place_in (layout_own A p) x))
      (in_classes d (class_vars A) have.members (unbound d false) f (base A p) (layout_classes A p) x
      ∙ ap (through_classes f (base A p) (class_vars A) (layout_classes A p) x) (static_same x)))

  inside_all : places_of (unbound d false) (closure_bounds d (name_at A p) it) ≡ (design_of A).inner p
  inside_all = fun_ext (λ x. inside (name_at A p) x)

  slots_all : hand_of none_at_hand (fields_from (name_at A p) (base A p) (layout_classes A p)) ≡ (design_of A).slots p
  slots_all = fun_ext (λ k. in_slots (name_at A p) (base A p) (layout_classes A p) k)

  entering : (params : List ℕ) (c : cps.Code) → lower (design_of A) (here_all params ((design_of A).inner p)) ((design_of A).slots p) c ≡ lower (design_of A) (places_in d (entered d (name_at A p) it params)) (hand_in (entered d (name_at A p) it params)) c
  entering params c =
      ap (λ (at : Places). lower (design_of A) (here_all params at) ((design_of A).slots p) c) (sym inside_all)
      ∙ ap (λ (at : Places). lower (design_of A) at ((design_of A).slots p) c) (here_places (unbound d false) params (closure_bounds d (name_at A p) it))
      ∙ ap (λ (hand : Hand). lower (design_of A) (places_in d (entered d (name_at A p) it params)) hand c) (sym slots_all)

pub functions_enter : FunctionsAreEntered
functions_enter A d have p k e params c =
    let same : it A d have p ≡ k = cc in
    ap (λ (b : closed.Code). record { params = name_at A p ∷ params; code = b }) (entering A d have p params c)
    ∙ ap (λ (i : Decision). record { params = name_at A p ∷ params; code = lower (design_of A) (places_in d (entered d (name_at A p) i params)) (hand_in (entered d (name_at A p) i params)) c }) same
