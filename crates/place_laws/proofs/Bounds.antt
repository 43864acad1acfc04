-- At most 20 registers are used, and where at most 20 values live at once nothing spills.
use Rattle.std.proofs.Common.{◌≡◌, ◌≢◌, ℕ, zero, suc, ◌+◌, ◌-◌, ◌<◌, ◌≤◌, List, [], ◌∷◌, ◌++◌, map, length, cond, Some, slice_get, Bool, true, false, inl, inr, refl, sym, ap, ◌∙◌, subst, arith, ⊎_elim, ◌⊎◌}
use Rattle.std.proofs.lemmas.List.{length-map}
use Rattle.std.proofs.lemmas.Bool.{ltb-true}
use Rattle.std.specs.Prelude.{nat_lt}
use Rattle.simulation.specs.Blocks.{IsAmong}
use Rattle.simulation.specs.Words.{IsDistinct}
use Rattle.simulation.proofs.Lists.{among_left, among_right, among_append, among_map, map_among}
use Rattle.closure_ir.specs.declared.operand.Operand.{Operand}
use Rattle.closure_ir.specs.declared.operand.Operand.TheVariants as operand
use Rattle.closure_ir.specs.declared.body.Maker.{Maker}
use Rattle.closure_ir.specs.declared.body.Wanted.{Wanted}
use Rattle.closure_ir.specs.declared.body.Wanted.TheVariants as want
use Rattle.closure_ir.specs.declared.body.Test.{Test}
use Rattle.closure_ir.specs.Code as closed
use Rattle.placed_ir.specs.declared.home.Home.TheVariants as home
use Rattle.placed_ir.specs.Code as placed
use Rattle.placed_ir.specs.Program.{framed}
use Rattle.place_laws.specs.Live.{is_in, without, without_all, used_by, all_used_by, used_by_makers, used_by_tests, names_of, live}
use Rattle.place_laws.specs.Place.{registers, least_from, least_free, home_of, Places, at_place, place_beside, at_one, at_group, maker_length, source_of, source_for, building_of, want_of, test_of, where_live, names_placed, beside, beside_group, place_code, home_spills, greater, spills, whole, frame_size, at_params, nowhere, place_plain, place_routine, greatest_frame, place_program}
use Rattle.place_laws.specs.Bounds.{IsRightHome, IsRightSource, AreRightSources, AreRightBuildings, IsRightWant, AreRightTests, UsesRegisters, AreAtMost, HasFewLive, NamesOnce, vars_of, path_words, SpillFits}
use Rattle.place_laws.proofs.Places.{eq_or_not, lt_or_not, in_among, not_among, home_register, without_keeps, without_in, without_all_in, greater_left, greater_right, greater_zero}

-- ---- Registers

pub right_home : (p : ℕ) → IsRightHome (home_of p)
right_home p = by (nat_lt p registers) refl
  where
    by : (b : Bool) → nat_lt p registers ≡ b → IsRightHome (cond b (home.Register p) (home.Spill (p - registers)))
    by true e = ltb-true p 20 e
    by false e = tt

right_source : (at : Places) (group : List Maker) (o : Operand) → IsRightSource (source_of at group o)
right_source at group (operand.Path x steps) = right_home (at x)
right_source at group (operand.New k) = tt
right_source at group (operand.Static s) = tt
right_source at group (operand.Code l) = tt
right_source at group (operand.Literal n) = tt

right_sources : (at : Places) (group : List Maker) (os : List Operand) → AreRightSources (map (source_of at group) os)
right_sources at group [] = tt
right_sources at group (o ∷ os) = (right_source at group o, right_sources at group os)

right_buildings : (at : Places) (group makers : List Maker) → AreRightBuildings (map (building_of at group) makers)
right_buildings at group [] = tt
right_buildings at group (m ∷ makers) = (right_sources at group m.fields, right_buildings at group makers)

right_want : (at : Places) (w : Wanted) → IsRightWant (want_of at w)
right_want at (want.Num z) = tt
right_want at (want.Tag t) = tt
right_want at (want.Text t) = tt
right_want at (want.Exn name applied) = right_source at [] name

right_tests : (at : Places) (tests : List Test) → AreRightTests (map (test_of at) tests)
right_tests at [] = tt
right_tests at (t ∷ tests) = (right_want at t.want, right_tests at tests)

-- either of two
either_code : (P : placed.Code → Type 0) (b : Bool) (c d : placed.Code) → P c → P d → P (cond b c d)
either_code P true c d p q = p
either_code P false c d p q = q

right_names : (alive : List ℕ) (makers : List Maker) (offset : ℕ) (taken : List ℕ) (c : placed.Code) → UsesRegisters c → UsesRegisters (names_placed alive makers offset taken c)
right_names alive [] offset taken c u = u
right_names alive (m ∷ makers) offset taken c u =
    let q = least_free taken in
    let on = offset + suc (maker_length m) in
    either_code UsesRegisters (is_in m.var alive) (placed.Name (home_of q) offset (names_placed alive makers on (q ∷ taken) c)) (names_placed alive makers on taken c)
    (right_home q, right_names alive makers on (q ∷ taken) c u) (right_names alive makers on taken c u)

pub right_code : (at : Places) (c : closed.Code) → UsesRegisters (place_code at c)
right_code at (closed.Make makers c) =
    let taken = map at (beside_group makers c) in
    (right_buildings at makers makers, right_names (live c) makers 0 taken (place_code (at_group (live c) makers taken at) c) (right_code (at_group (live c) makers taken at) c))
right_code at (closed.Let x o c) =
    let there = place_code (at_one at x (beside x c)) c in
    let on = right_code (at_one at x (beside x c)) c in
    let q = place_beside at (beside x c) in
    either_code UsesRegisters (is_in x (live c)) (placed.Let (home_of q) (source_for at o) there) there (right_home q, right_source at [] o, on) on
right_code at (closed.Prim x f os c) =
    let there = place_code (at_one at x (beside x c)) c in
    let on = right_code (at_one at x (beside x c)) c in
    let q = place_beside at (beside x c) in
    (right_sources at [] os, either_code UsesRegisters (is_in x (live c)) (placed.Take (home_of q) there) there (right_home q, on) on)
right_code at (closed.Handler x c) =
    let there = place_code (at_one at x (beside x c)) c in
    let on = right_code (at_one at x (beside x c)) c in
    let q = place_beside at (beside x c) in
    either_code UsesRegisters (is_in x (live c)) (placed.Handler (home_of q) there) there (right_home q, on) on
right_code at (closed.SetHandler o c) = (right_source at [] o, right_code at c)
right_code at (closed.When o tests same other) = (right_source at [] o, right_tests at tests, right_code at same, right_code at other)
right_code at (closed.Equal a b t k) = (right_source at [] a, right_source at [] b, right_source at [] k)
right_code at (closed.Call t f os) = (right_source at [] f, right_sources at [] os)
right_code at (closed.Throw o) = right_source at [] o
right_code at closed.Halt = tt

-- ---- The least free place is at most the number of those taken

-- a list without one of its elements
record Removed (x : ℕ) (ys : List ℕ) : Type 0 where
  left : List ℕ
  shorter : length ys ≡ suc (length left)
  others : (y : ℕ) → IsAmong y ys → y ≢ x → IsAmong y left

removed_more : (x z : ℕ) (zs : List ℕ) → Removed x zs → Removed x (z ∷ zs)
removed_more x z zs r = record { left = z ∷ r.left; shorter = ap suc r.shorter; others = on }
  where
    on : (y : ℕ) → IsAmong y (z ∷ zs) → y ≢ x → IsAmong y (z ∷ r.left)
    on y (inl f) n = inl f
    on y (inr g) n = inr (r.others y g n)

remove : (x : ℕ) (ys : List ℕ) → IsAmong x ys → Removed x ys
remove x [] h = absurd h
remove x (z ∷ zs) (inl e) = record { left = zs; shorter = refl; others = tail }
  where
    tail : (y : ℕ) → IsAmong y (z ∷ zs) → y ≢ x → IsAmong y zs
    tail y (inl f) n = absurd (n (f ∙ sym e))
    tail y (inr g) n = g
remove x (z ∷ zs) (inr h) = removed_more x z zs (remove x zs h)

below_all : (p : ℕ) (cover : List ℕ) → ((q : ℕ) → q < p → IsAmong q cover) → p ≤ length cover
below_all zero cover f = omega arith
below_all (suc p) cover f =
    let r = remove p cover (f p (omega arith)) in
    let l = below_all p r.left (λ q m. r.others q (f q (omega arith)) (λ e. omega arith)) in
    let k = r.shorter in
    omega arith

lesser : (n j : ℕ) → j < suc n → j ≢ n → j < n
lesser n j o s = ⊎_elim (λ (a : j < n). a) (λ (a : n ≤ j). absurd (s (omega arith))) (lt_or_not j n)

least_in : (k n : ℕ) (taken : List ℕ) → k + n ≡ suc (length taken) → ((q : ℕ) → q < n → IsAmong q taken) → (q : ℕ) → q < least_from k n taken → IsAmong q taken
least_in zero n taken e f q l = let m = below_all n taken f in absurd (omega arith)
least_in (suc k) n taken e f q l = by (λ g. least_in k (suc n) taken (omega arith) g q) (is_in n taken) refl l
  where
    by : (((q : ℕ) → q < suc n → IsAmong q taken) → q < least_from k (suc n) taken → IsAmong q taken) → (b : Bool) → is_in n taken ≡ b → q < cond b (least_from k (suc n) taken) n → IsAmong q taken
    by g true i m =
        g
        (λ j o. ⊎_elim
        (λ (s : j ≡ n). subst (λ t. IsAmong t taken) (sym s) (in_among n taken i))
        (λ (s : j ≢ n). f j (lesser n j o s))
        (eq_or_not j n))
        m
    by g false i m = f q m

-- all below it are taken
pub below_least : (taken : List ℕ) (q : ℕ) → q < least_free taken → IsAmong q taken
below_least taken q l = least_in (suc (length taken)) 0 taken (omega arith) (λ j o. absurd (omega arith)) q l

pub least_below : (taken cover : List ℕ) → ((q : ℕ) → IsAmong q taken → IsAmong q cover) → least_free taken ≤ length cover
least_below taken cover f =
    below_all (least_free taken) cover (λ q l. f q (least_in (suc (length taken)) 0 taken (omega arith) (λ j o. absurd (omega arith)) q l))

-- ---- Nothing spills

low_spills : (p : ℕ) → p < 20 → home_spills (home_of p) ≡ 0
low_spills p l = ap home_spills (home_register p l)

-- the places of these variables, of which there are few
covered : (at : Places) (others few : List ℕ) → ((y : ℕ) → IsAmong y others → IsAmong y few) → (q : ℕ) → IsAmong q (map at others) → IsAmong q (map at few)
covered at others few f q m = let r = among_map at q others m in subst (λ t. IsAmong t (map at few)) (sym r.2) (map_among at r.0 few (f r.0 r.1))

-- the place of a variable that lives with at most 19 others
beside_low : (at : Places) (x : ℕ) (c : closed.Code) → AreAtMost 20 (live c) → IsAmong x (live c) → place_beside at (beside x c) < 20
beside_low at x c a i =
    let r = remove x a.few (a.all x i) in
    let m = least_below (map at (beside x c)) (map at r.left) (covered at (beside x c) r.left (λ y h. let k = without_in x y (live c) h in r.others y (a.all y k.0) k.1)) in
    let n = a.most in
    let s = r.shorter in
    omega (arith, length-map r.left at)

-- a form that a living variable has, or none
live_zero : (at : Places) (x : ℕ) (c : closed.Code) (form : placed.Code → placed.Code) → ((d : placed.Code) → spills (form d) ≡ greater (home_spills (home_of (place_beside at (beside x c)))) (spills d)) → AreAtMost 20 (live c) → (d : placed.Code) → spills d ≡ 0 → spills (where_live x (live c) (form d) d) ≡ 0
live_zero at x c form is a d e = by (is_in x (live c)) refl
  where
    by : (b : Bool) → is_in x (live c) ≡ b → spills (cond b (form d) d) ≡ 0
    by true i = is d ∙ greater_zero (home_spills (home_of (place_beside at (beside x c)))) (spills d) (low_spills (place_beside at (beside x c)) (beside_low at x c a (in_among x (live c) i))) e
    by false i = e

-- The names of a group get places below 20, where so many places are taken, so many names live on, and both are at most 20.
names_low : (alive : List ℕ) (makers : List Maker) (offset : ℕ) (taken cover few : List ℕ) (d : placed.Code) → IsDistinct (names_of makers) → ((q : ℕ) → IsAmong q taken → IsAmong q cover) → ((x : ℕ) → IsAmong x alive → IsAmong x (names_of makers) → IsAmong x few) → length cover + length few ≤ 20 → spills d ≡ 0 → spills (names_placed alive makers offset taken d) ≡ 0
names_low alive [] offset taken cover few d once f g l e = e
names_low alive (m ∷ makers) offset taken cover few d once f g l e =
    by
    (λ i.
    let r = remove m.var few (g m.var i (inl refl)) in
    let s = r.shorter in
    let low : least_free taken < 20 = let k = least_below taken cover f in omega arith in
    greater_zero (home_spills (home_of (least_free taken))) (spills (names_placed alive makers on (least_free taken ∷ taken) d)) (low_spills (least_free taken) low)
    (names_low alive makers on (least_free taken ∷ taken) (least_free taken ∷ cover) r.left d once.1 more
    (λ x j h. r.others x (g x j (inr h)) (λ t. once.0 (subst (λ z. IsAmong z (names_of makers)) t h))) (omega arith) e))
    (names_low alive makers on taken cover few d once.1 f (λ x j h. g x j (inr h)) l e)
    (is_in m.var alive) refl
  where
    on : ℕ
    on = offset + suc (maker_length m)

    more : (j : ℕ) → IsAmong j (least_free taken ∷ taken) → IsAmong j (least_free taken ∷ cover)
    more j (inl i) = inl i
    more j (inr h) = inr (f j h)

    by : (IsAmong m.var alive → spills (placed.Name (home_of (least_free taken)) offset (names_placed alive makers on (least_free taken ∷ taken) d)) ≡ 0) → spills (names_placed alive makers on taken d) ≡ 0 → (b : Bool) → is_in m.var alive ≡ b → spills (cond b (placed.Name (home_of (least_free taken)) offset (names_placed alive makers on (least_free taken ∷ taken) d)) (names_placed alive makers on taken d)) ≡ 0
    by here past true i = here (in_among m.var alive i)
    by here past false i = past

-- those that live on
abbrev living : List ℕ → List ℕ → List ℕ
living alive [] = []
living alive (x ∷ xs) = cond (is_in x alive) (x ∷ living alive xs) (living alive xs)

living_in : (alive xs : List ℕ) (y : ℕ) → IsAmong y (living alive xs) → IsAmong y xs × IsAmong y alive
living_in alive [] y m = absurd m
living_in alive (x ∷ xs) y m = by (λ h. living_in alive xs y h) (is_in x alive) refl m
  where
    by : (IsAmong y (living alive xs) → IsAmong y xs × IsAmong y alive) → (b : Bool) → is_in x alive ≡ b → IsAmong y (cond b (x ∷ living alive xs) (living alive xs)) → IsAmong y (x ∷ xs) × IsAmong y alive
    by tail true i (inl e) = (inl e, subst (λ z. IsAmong z alive) (sym e) (in_among x alive i))
    by tail true i (inr h) = let r = tail h in (inr r.0, r.1)
    by tail false i h = let r = tail h in (inr r.0, r.1)

in_living : (alive xs : List ℕ) (y : ℕ) → IsAmong y alive → IsAmong y xs → IsAmong y (living alive xs)
in_living alive [] y a m = absurd m
in_living alive (x ∷ xs) y a m = by (λ h. in_living alive xs y a h) (is_in x alive) refl m
  where
    by : (IsAmong y xs → IsAmong y (living alive xs)) → (b : Bool) → is_in x alive ≡ b → IsAmong y (x ∷ xs) → IsAmong y (cond b (x ∷ living alive xs) (living alive xs))
    by tail true i (inl e) = inl e
    by tail true i (inr h) = inr (tail h)
    by tail false i (inl e) = absurd (not_among x alive i (subst (λ z. IsAmong z alive) e a))
    by tail false i (inr h) = tail h

living_once : (alive xs : List ℕ) → IsDistinct xs → IsDistinct (living alive xs)
living_once alive [] d = tt
living_once alive (x ∷ xs) d = by (is_in x alive) refl (living_once alive xs d.1)
  where
    by : (b : Bool) → is_in x alive ≡ b → IsDistinct (living alive xs) → IsDistinct (cond b (x ∷ living alive xs) (living alive xs))
    by true i h = ((λ m. d.0 (living_in alive xs x m).0), h)
    by false i h = h

-- a list without several of its elements
record AllRemoved (xs ys : List ℕ) : Type 0 where
  left : List ℕ
  shorter : length ys ≡ length xs + length left
  others : (y : ℕ) → IsAmong y ys → (IsAmong y xs → ⊥) → IsAmong y left

remove_all : (xs ys : List ℕ) → IsDistinct xs → ((y : ℕ) → IsAmong y xs → IsAmong y ys) → AllRemoved xs ys
remove_all [] ys d f = record { left = ys; shorter = omega arith; others = λ y m n. m }
remove_all (x ∷ xs) ys d f =
    let r = remove x ys (f x (inl refl)) in
    let q = remove_all xs r.left d.1 (λ y m. r.others y (f y (inr m)) (λ e. d.0 (subst (λ t. IsAmong t xs) e m))) in
    let k = r.shorter in
    let l = q.shorter in
    record { left = q.left; shorter = omega arith; others = λ y m n. q.others y (r.others y m (λ e. n (inl e))) (λ i. n (inr i)) }

group_low : (at : Places) (makers : List Maker) (c : closed.Code) (d : placed.Code) → IsDistinct (names_of makers) → AreAtMost 20 (live c) → spills d ≡ 0 → spills (names_placed (live c) makers 0 (map at (beside_group makers c)) d) ≡ 0
group_low at makers c d once a e =
    let names = living (live c) (names_of makers) in
    let r = remove_all names a.few (living_once (live c) (names_of makers) once) (λ y m. a.all y (living_in (live c) (names_of makers) y m).1) in
    let n = a.most in
    let s = r.shorter in
    names_low (live c) makers 0 (map at (beside_group makers c)) (map at r.left) names d once
    (covered at (beside_group makers c) r.left
    (λ y h. let k = without_all_in (names_of makers) y (live c) h in r.others y (a.all y k.0) (λ i. k.1 (living_in (live c) (names_of makers) y i).0)))
    (λ x i h. in_living (live c) (names_of makers) x i h)
    (omega (arith, length-map r.left at)) e

-- what lives here
few_here : (n : ℕ) (c : closed.Code) → HasFewLive n c → AreAtMost n (live c)
few_here n (closed.Make makers c) h = h.0
few_here n (closed.Let x o c) h = h.0
few_here n (closed.Prim x f os c) h = h.0
few_here n (closed.Handler x c) h = h.0
few_here n (closed.SetHandler o c) h = h.0
few_here n (closed.When o tests same other) h = h.0
few_here n (closed.Equal a b t k) h = h
few_here n (closed.Call t f os) h = h
few_here n (closed.Throw o) h = h
few_here n closed.Halt h = h

-- a body with at most 20 values that live at once writes no word of a spill record
pub few_spill_none : (at : Places) (c : closed.Code) → NamesOnce c → HasFewLive 20 c → spills (place_code at c) ≡ 0
few_spill_none at (closed.Make makers c) o h =
    let on = at_group (live c) makers (map at (beside_group makers c)) at in
    group_low at makers c (place_code on c) o.0 (few_here 20 c h.1) (few_spill_none on c o.1 h.1)
few_spill_none at (closed.Let x v c) o h =
    live_zero at x c (λ d. placed.Let (home_of (place_beside at (beside x c))) (source_for at v) d) (λ d. refl) (few_here 20 c h.1) (place_code (at_one at x (beside x c)) c) (few_spill_none (at_one at x (beside x c)) c o h.1)
few_spill_none at (closed.Prim x f os c) o h =
    live_zero at x c (λ d. placed.Take (home_of (place_beside at (beside x c))) d) (λ d. refl) (few_here 20 c h.1) (place_code (at_one at x (beside x c)) c) (few_spill_none (at_one at x (beside x c)) c o h.1)
few_spill_none at (closed.Handler x c) o h =
    live_zero at x c (λ d. placed.Handler (home_of (place_beside at (beside x c))) d) (λ d. refl) (few_here 20 c h.1) (place_code (at_one at x (beside x c)) c) (few_spill_none (at_one at x (beside x c)) c o h.1)
few_spill_none at (closed.SetHandler v c) o h = few_spill_none at c o h.1
few_spill_none at (closed.When v tests same other) o h =
    greater_zero (spills (place_code at same)) (spills (place_code at other)) (few_spill_none at same o.0 h.1) (few_spill_none at other o.1 h.2)
few_spill_none at (closed.Equal a b t k) o h = refl
few_spill_none at (closed.Call t f os) o h = refl
few_spill_none at (closed.Throw v) o h = refl
few_spill_none at closed.Halt o h = refl

-- so it makes none
pub few_make_none : (f : closed.Routine) → NamesOnce f.code → HasFewLive 20 f.code → place_routine f ≡ place_plain f
few_make_none f o h = ap (λ n. framed n (place_plain f)) (few_spill_none (at_params f.params 0 nowhere) f.code o h)

-- ---- A body with few variables has few live values

live_vars : (c : closed.Code) (y : ℕ) → IsAmong y (live c) → IsAmong y (vars_of c)
live_vars (closed.Make makers c) y h =
    ⊎_elim
    (λ (m : IsAmong y (used_by_makers makers)). among_right y (names_of makers) (used_by_makers makers ++ vars_of c) (among_left y (used_by_makers makers) (vars_of c) m))
    (λ (m : IsAmong y (beside_group makers c)).
    among_right y (names_of makers) (used_by_makers makers ++ vars_of c)
    (among_right y (used_by_makers makers) (vars_of c) (live_vars c y (without_all_in (names_of makers) y (live c) m).0)))
    (among_append y (used_by_makers makers) (beside_group makers c) h)
live_vars (closed.Let x o c) y h =
    ⊎_elim
    (λ (m : IsAmong y (used_by o)). inr (among_left y (used_by o) (vars_of c) m))
    (λ (m : IsAmong y (beside x c)). inr (among_right y (used_by o) (vars_of c) (live_vars c y (without_in x y (live c) m).0)))
    (among_append y (used_by o) (beside x c) h)
live_vars (closed.Prim x f os c) y h =
    ⊎_elim
    (λ (m : IsAmong y (all_used_by os)). inr (among_left y (all_used_by os) (vars_of c) m))
    (λ (m : IsAmong y (beside x c)). inr (among_right y (all_used_by os) (vars_of c) (live_vars c y (without_in x y (live c) m).0)))
    (among_append y (all_used_by os) (beside x c) h)
live_vars (closed.Handler x c) y h = inr (live_vars c y (without_in x y (live c) h).0)
live_vars (closed.SetHandler o c) y h =
    ⊎_elim
    (λ (m : IsAmong y (used_by o)). among_left y (used_by o) (vars_of c) m)
    (λ (m : IsAmong y (live c)). among_right y (used_by o) (vars_of c) (live_vars c y m))
    (among_append y (used_by o) (live c) h)
live_vars (closed.When o tests same other) y h =
    let used = used_by o ++ used_by_tests tests in
    ⊎_elim
    (λ (m : IsAmong y used). among_left y used (vars_of same ++ vars_of other) m)
    (λ (m : IsAmong y (live same ++ live other)).
    among_right y used (vars_of same ++ vars_of other)
    (⊎_elim
    (λ (k : IsAmong y (live same)). among_left y (vars_of same) (vars_of other) (live_vars same y k))
    (λ (k : IsAmong y (live other)). among_right y (vars_of same) (vars_of other) (live_vars other y k))
    (among_append y (live same) (live other) m)))
    (among_append y used (live same ++ live other) h)
live_vars (closed.Equal a b t k) y h = h
live_vars (closed.Call t f os) y h = h
live_vars (closed.Throw o) y h = h
live_vars closed.Halt y h = h

few_of : (n : ℕ) (vars : List ℕ) (c : closed.Code) → length vars ≤ n → ((y : ℕ) → IsAmong y (vars_of c) → IsAmong y vars) → AreAtMost n (live c)
few_of n vars c l f = record { few = vars; all = λ y m. f y (live_vars c y m); most = l }

-- its closure and the class records that it reads counted
pub few_vars : (n : ℕ) (vars : List ℕ) (c : closed.Code) → length vars ≤ n → ((y : ℕ) → IsAmong y (vars_of c) → IsAmong y vars) → HasFewLive n c
few_vars n vars (closed.Make makers c) l f =
    (few_of n vars (closed.Make makers c) l f, few_vars n vars c l (λ y m. f y (among_right y (names_of makers) (used_by_makers makers ++ vars_of c) (among_right y (used_by_makers makers) (vars_of c) m))))
few_vars n vars (closed.Let x o c) l f = (few_of n vars (closed.Let x o c) l f, few_vars n vars c l (λ y m. f y (inr (among_right y (used_by o) (vars_of c) m))))
few_vars n vars (closed.Prim x g os c) l f = (few_of n vars (closed.Prim x g os c) l f, few_vars n vars c l (λ y m. f y (inr (among_right y (all_used_by os) (vars_of c) m))))
few_vars n vars (closed.Handler x c) l f = (few_of n vars (closed.Handler x c) l f, few_vars n vars c l (λ y m. f y (inr m)))
few_vars n vars (closed.SetHandler o c) l f = (few_of n vars (closed.SetHandler o c) l f, few_vars n vars c l (λ y m. f y (among_right y (used_by o) (vars_of c) m)))
few_vars n vars (closed.When o tests same other) l f =
    let used = used_by o ++ used_by_tests tests in (
      few_of n vars (closed.When o tests same other) l f,
      few_vars n vars same l (λ y i. f y (among_right y used (vars_of same ++ vars_of other) (among_left y (vars_of same) (vars_of other) i))),
      few_vars n vars other l (λ y i. f y (among_right y used (vars_of same ++ vars_of other) (among_right y (vars_of same) (vars_of other) i))),
    )
few_vars n vars (closed.Equal a b t k) l f = few_of n vars (closed.Equal a b t k) l f
few_vars n vars (closed.Call t g os) l f = few_of n vars (closed.Call t g os) l f
few_vars n vars (closed.Throw o) l f = few_of n vars (closed.Throw o) l f
few_vars n vars closed.Halt l f = few_of n vars closed.Halt l f

-- ---- What paths take

either_path : (b : Bool) (c d : placed.Code) → path_words c ≡ 0 → path_words d ≡ 0 → path_words (cond b c d) ≡ 0
either_path b c d e f = either_code (λ z. path_words z ≡ 0) b c d e f

names_path : (alive : List ℕ) (makers : List Maker) (offset : ℕ) (taken : List ℕ) (d : placed.Code) → path_words d ≡ 0 → path_words (names_placed alive makers offset taken d) ≡ 0
names_path alive [] offset taken d e = e
names_path alive (m ∷ makers) offset taken d e =
    let q = least_free taken in
    let on = offset + suc (maker_length m) in
    either_path (is_in m.var alive) (placed.Name (home_of q) offset (names_placed alive makers on (q ∷ taken) d)) (names_placed alive makers on taken d)
    (names_path alive makers on (q ∷ taken) d e) (names_path alive makers on taken d e)

plain_path : (at : Places) (c : closed.Code) → path_words (place_code at c) ≡ 0
plain_path at (closed.Make makers c) =
    let on = at_group (live c) makers (map at (beside_group makers c)) at in
    names_path (live c) makers 0 (map at (beside_group makers c)) (place_code on c) (plain_path on c)
plain_path at (closed.Let x o c) =
    let there = place_code (at_one at x (beside x c)) c in
    let e = plain_path (at_one at x (beside x c)) c in
    either_path (is_in x (live c)) (placed.Let (home_of (place_beside at (beside x c))) (source_for at o) there) there e e
plain_path at (closed.Prim x f os c) =
    let there = place_code (at_one at x (beside x c)) c in
    let e = plain_path (at_one at x (beside x c)) c in
    either_path (is_in x (live c)) (placed.Take (home_of (place_beside at (beside x c))) there) there e e
plain_path at (closed.Handler x c) =
    let there = place_code (at_one at x (beside x c)) c in
    let e = plain_path (at_one at x (beside x c)) c in
    either_path (is_in x (live c)) (placed.Handler (home_of (place_beside at (beside x c))) there) there e e
plain_path at (closed.SetHandler o c) = plain_path at c
plain_path at (closed.When o tests same other) =
    greater_zero (path_words (place_code at same)) (path_words (place_code at other)) (plain_path at same) (plain_path at other)
plain_path at (closed.Equal a b t k) = refl
plain_path at (closed.Call t f os) = refl
plain_path at (closed.Throw o) = refl
plain_path at closed.Halt = refl

framed_path : (n : ℕ) (c : placed.Code) → path_words c ≡ 0 → path_words (framed n c) ≡ frame_size n
framed_path zero c e = e
framed_path (suc n) c e = omega arith

-- each path through a body makes its one spill record, or none
pub whole_path : (at : Places) (c : closed.Code) → path_words (whole (place_code at c)) ≡ frame_size (spills (place_code at c))
whole_path at c = framed_path (spills (place_code at c)) (place_code at c) (plain_path at c)

routine_fits : (functions : List closed.Routine) (l : ℕ) (c : placed.Code) → slice_get (map place_routine functions) l ≡ Some c → path_words c ≤ greatest_frame functions
routine_fits [] l c e = absurd (cc)
routine_fits (f ∷ functions) zero c e =
    let g : Some (place_routine f) ≡ Some c = e in
    let k : place_routine f ≡ c = cc in
    let p = whole_path (at_params f.params 0 nowhere) f.code in
    let m = greater_left (frame_size (spills (place_plain f))) (greatest_frame functions) in
    subst (λ t. path_words t ≤ greatest_frame (f ∷ functions)) k (omega arith)
routine_fits (f ∷ functions) (suc l) c e =
    let m = routine_fits functions l c e in
    let n = greater_right (frame_size (spills (place_plain f))) (greatest_frame functions) in
    omega arith

pub program_fits : (p : closed.Tree) → length p.functions ≤ length p.points → SpillFits (place_program p)
program_fits p e = record {
  main =
      let k = whole_path nowhere p.main in
      let m = greater_left (frame_size (spills (place_code nowhere p.main))) (greatest_frame p.functions) in
      omega arith;
  functions = λ l c q.
      let m = routine_fits p.functions l c q in
      let n = greater_right (frame_size (spills (place_code nowhere p.main))) (greatest_frame p.functions) in
      omega arith;
  as_many = omega (arith, length-map p.functions place_routine);
}
