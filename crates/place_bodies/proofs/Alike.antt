-- A body is placed alike from places that agree on the variables that live before it.
use Rattle.std.proofs.Common.{◌≡◌, ◌≢◌, ℕ, suc, ◌+◌, ◌==◌, Bool, true, false, List, [], ◌∷◌, ◌++◌, cond, map, inl, inr, refl, sym, ap, ◌∙◌, subst, arith, ⊎_elim}
use Rattle.simulation.specs.Blocks.{IsAmong}
use Rattle.simulation.proofs.Lists.{among_left, among_right}
use Rattle.closure_ir.specs.declared.operand.Operand.{Operand}
use Rattle.closure_ir.specs.declared.operand.Operand.TheVariants as operand
use Rattle.closure_ir.specs.declared.body.Maker.{Maker}
use Rattle.closure_ir.specs.declared.body.Wanted.{Wanted}
use Rattle.closure_ir.specs.declared.body.Wanted.TheVariants as want
use Rattle.closure_ir.specs.declared.body.Test.{Test}
use Rattle.closure_ir.specs.Code as closed
use Rattle.placed_ir.specs.declared.home.Source.{Source}
use Rattle.placed_ir.specs.declared.home.Source.TheVariants as source
use Rattle.placed_ir.specs.declared.home.Building.{Building}
use Rattle.placed_ir.specs.declared.test.Wanted.{Wanted as WantedThere}
use Rattle.placed_ir.specs.declared.test.Wanted.TheVariants as there
use Rattle.placed_ir.specs.declared.test.Test.{Test as TestThere}
use Rattle.placed_ir.specs.Code as placed
use Rattle.place_laws.specs.Live.{is_in, without, without_all, used_by, all_used_by, used_by_makers, used_by_want, used_by_tests, names_of, live}
use Rattle.place_laws.specs.Place.{least_free, home_of, Places, at_place, place_beside, at_one, at_group, source_of, source_for, building_of, want_of, test_of, where_live, names_placed, beside, beside_group, place_code}
use Rattle.place_laws.proofs.Places.{eq_or_not, eq_true, eq_false, without_keeps, without_all_keeps, without_all_in, not_among}

abbrev pub Agree : Places → Places → List ℕ → Type 0
Agree at bt xs = (x : ℕ) → IsAmong x xs → at x ≡ bt x

module _ (at bt : Places) where
  front : (xs ys : List ℕ) → Agree at bt (xs ++ ys) → Agree at bt xs
  front xs ys h x m = h x (among_left x xs ys m)

  back : (xs ys : List ℕ) → Agree at bt (xs ++ ys) → Agree at bt ys
  back xs ys h x m = h x (among_right x xs ys m)

  source_alike : (group : List Maker) (o : Operand) → Agree at bt (used_by o) → source_of at group o ≡ source_of bt group o
  source_alike group (operand.Path x steps) h = ap (λ p. source.Along (home_of p) steps) (h x (inl refl))
  source_alike group (operand.New k) h = refl
  source_alike group (operand.Static s) h = refl
  source_alike group (operand.Code l) h = refl
  source_alike group (operand.Literal n) h = refl

  sources_alike : (group : List Maker) (os : List Operand) → Agree at bt (all_used_by os) → map (source_of at group) os ≡ map (source_of bt group) os
  sources_alike group [] h = refl
  sources_alike group (o ∷ os) h =
      ap (λ s. s ∷ map (source_of at group) os) (source_alike group o (front (used_by o) (all_used_by os) h))
      ∙ ap (λ ss. source_of bt group o ∷ ss) (sources_alike group os (back (used_by o) (all_used_by os) h))

  abbrev the_building : Maker → List Source → Building
  the_building m fields = record { shape = m.shape; fields = fields }

  abbrev the_test : Test → WantedThere → TestThere
  the_test t w = record { path = t.path; want = w }

  buildings_alike : (group makers : List Maker) → Agree at bt (used_by_makers makers) → map (building_of at group) makers ≡ map (building_of bt group) makers
  buildings_alike group [] h = refl
  buildings_alike group (m ∷ makers) h =
      ap (λ (fs : List Source). (the_building m fs) ∷ map (building_of at group) makers) (sources_alike group m.fields (front (all_used_by m.fields) (used_by_makers makers) h))
      ∙ ap (λ bs. building_of bt group m ∷ bs) (buildings_alike group makers (back (all_used_by m.fields) (used_by_makers makers) h))

  want_alike : (w : Wanted) → Agree at bt (used_by_want w) → want_of at w ≡ want_of bt w
  want_alike (want.Num z) h = refl
  want_alike (want.Tag t) h = refl
  want_alike (want.Text t) h = refl
  want_alike (want.Exn name applied) h = ap (λ s. there.Exn s applied) (source_alike [] name h)

  tests_alike : (tests : List Test) → Agree at bt (used_by_tests tests) → map (test_of at) tests ≡ map (test_of bt) tests
  tests_alike [] h = refl
  tests_alike (t ∷ tests) h =
      ap (λ (w : WantedThere). the_test t w ∷ map (test_of at) tests) (want_alike t.want (front (used_by_want t.want) (used_by_tests tests) h))
      ∙ ap (λ ts. test_of bt t ∷ ts) (tests_alike tests (back (used_by_want t.want) (used_by_tests tests) h))

  places_alike : (xs : List ℕ) → Agree at bt xs → map at xs ≡ map bt xs
  places_alike [] h = refl
  places_alike (x ∷ xs) h = ap (λ p. p ∷ map at xs) (h x (inl refl)) ∙ ap (λ ps. bt x ∷ ps) (places_alike xs (λ y m. h y (inr m)))

-- ---- Behind a binding

-- one more place
place_agree : (at bt : Places) (x p : ℕ) (xs : List ℕ) → Agree at bt (without x xs) → Agree (at_place at x p) (at_place bt x p) xs
place_agree at bt x p xs h y m = by (y == x) refl
  where
    by : (c : Bool) → (y == x) ≡ c → cond c p (at y) ≡ cond c p (bt y)
    by true e = refl
    by false e = h y (without_keeps x y xs m (λ s. let t : true ≡ false = sym (eq_true y x s) ∙ e in cc))

one_agree : (at bt : Places) (x : ℕ) (xs : List ℕ) → Agree at bt (without x xs) → Agree (at_one at x (without x xs)) (at_one bt x (without x xs)) xs
one_agree at bt x xs h =
    let same : place_beside at (without x xs) ≡ place_beside bt (without x xs) = ap least_free (places_alike at bt (without x xs) h) in
    subst (λ p. Agree (at_place at x (place_beside at (without x xs))) (at_place bt x p) xs) same (place_agree at bt x (place_beside at (without x xs)) xs h)

-- those of a group that live on get places, and the others aren't looked at
group_agree : (alive : List ℕ) (makers : List Maker) (taken : List ℕ) (at bt : Places) → Agree at bt (without_all (names_of makers) alive) → Agree (at_group alive makers taken at) (at_group alive makers taken bt) alive
group_agree alive [] taken at bt h = h
group_agree alive (m ∷ makers) taken at bt h =
    by (is_in m.var alive) refl (λ g. group_agree alive makers (least_free taken ∷ taken) (at_place at m.var (least_free taken)) (at_place bt m.var (least_free taken)) g) (λ g. group_agree alive makers taken at bt g)
  where
    by : (b : Bool) → is_in m.var alive ≡ b → (Agree (at_place at m.var (least_free taken)) (at_place bt m.var (least_free taken)) (without_all (names_of makers) alive) → Agree (at_group alive makers (least_free taken ∷ taken) (at_place at m.var (least_free taken))) (at_group alive makers (least_free taken ∷ taken) (at_place bt m.var (least_free taken))) alive) → (Agree at bt (without_all (names_of makers) alive) → Agree (at_group alive makers taken at) (at_group alive makers taken bt) alive) → Agree (cond b (at_group alive makers (least_free taken ∷ taken) (at_place at m.var (least_free taken))) (at_group alive makers taken at)) (cond b (at_group alive makers (least_free taken ∷ taken) (at_place bt m.var (least_free taken))) (at_group alive makers taken bt)) alive
    by true e f g = f (place_agree at bt m.var (least_free taken) (without_all (names_of makers) alive) h)
    by false e f g =
        g
        (λ y n.
        h y
        (without_keeps m.var y (without_all (names_of makers) alive) n
        (λ s. let k = (without_all_in (names_of makers) y alive n).0 in not_among m.var alive e (subst (λ z. IsAmong z alive) s k))))

-- ---- Bodies

names_alike : (alive : List ℕ) (makers : List Maker) (offset : ℕ) (us vs : List ℕ) (c d : placed.Code) → us ≡ vs → c ≡ d → names_placed alive makers offset us c ≡ names_placed alive makers offset vs d
names_alike alive makers offset us vs c d e f = ap (λ ts. names_placed alive makers offset ts c) e ∙ ap (names_placed alive makers offset vs) f

pub alike : (c : closed.Code) (at bt : Places) → Agree at bt (live c) → place_code at c ≡ place_code bt c
alike (closed.Make makers c) at bt h =
    let uses = used_by_makers makers in
    let others = beside_group makers c in
    let g : Agree at bt others = back at bt uses others h in
    let taken : map at others ≡ map bt others = places_alike at bt others g in
    let rest : place_code (at_group (live c) makers (map at others) at) c ≡ place_code (at_group (live c) makers (map bt others) bt) c =
    alike c (at_group (live c) makers (map at others) at) (at_group (live c) makers (map at others) bt) (group_agree (live c) makers (map at others) at bt g)
    ∙ ap (λ ts. place_code (at_group (live c) makers ts bt) c) taken in
    ap (λ bs. placed.Make bs (names_placed (live c) makers 0 (map at others) (place_code (at_group (live c) makers (map at others) at) c))) (buildings_alike at bt makers makers (front at bt uses others h))
    ∙ ap (placed.Make (map (building_of bt makers) makers)) (names_alike (live c) makers 0 (map at others) (map bt others) (place_code (at_group (live c) makers (map at others) at) c) (place_code (at_group (live c) makers (map bt others) bt) c) taken rest)
alike (closed.Let x o c) at bt h =
    let others = beside x c in
    let g : Agree at bt others = back at bt (used_by o) others h in
    let rest : place_code (at_one at x others) c ≡ place_code (at_one bt x others) c = alike c (at_one at x others) (at_one bt x others) (one_agree at bt x (live c) g) in
    let p : place_beside at others ≡ place_beside bt others = ap least_free (places_alike at bt others g) in
    ap (λ s. where_live x (live c) (placed.Let (home_of (place_beside at others)) s (place_code (at_one at x others) c)) (place_code (at_one at x others) c)) (source_alike at bt [] o (front at bt (used_by o) others h))
    ∙ ap (λ q. where_live x (live c) (placed.Let (home_of q) (source_for bt o) (place_code (at_one at x others) c)) (place_code (at_one at x others) c)) p
    ∙ ap (λ d. where_live x (live c) (placed.Let (home_of (place_beside bt others)) (source_for bt o) d) d) rest
alike (closed.Prim x f os c) at bt h =
    let others = beside x c in
    let g : Agree at bt others = back at bt (all_used_by os) others h in
    let rest : place_code (at_one at x others) c ≡ place_code (at_one bt x others) c = alike c (at_one at x others) (at_one bt x others) (one_agree at bt x (live c) g) in
    let p : place_beside at others ≡ place_beside bt others = ap least_free (places_alike at bt others g) in
    ap (λ ss. placed.Prim f ss (where_live x (live c) (placed.Take (home_of (place_beside at others)) (place_code (at_one at x others) c)) (place_code (at_one at x others) c))) (sources_alike at bt [] os (front at bt (all_used_by os) others h))
    ∙ ap (λ q. placed.Prim f (map (source_for bt) os) (where_live x (live c) (placed.Take (home_of q) (place_code (at_one at x others) c)) (place_code (at_one at x others) c))) p
    ∙ ap (λ d. placed.Prim f (map (source_for bt) os) (where_live x (live c) (placed.Take (home_of (place_beside bt others)) d) d)) rest
alike (closed.Handler x c) at bt h =
    let others = beside x c in
    let rest : place_code (at_one at x others) c ≡ place_code (at_one bt x others) c = alike c (at_one at x others) (at_one bt x others) (one_agree at bt x (live c) h) in
    let p : place_beside at others ≡ place_beside bt others = ap least_free (places_alike at bt others h) in
    ap (λ q. where_live x (live c) (placed.Handler (home_of q) (place_code (at_one at x others) c)) (place_code (at_one at x others) c)) p
    ∙ ap (λ d. where_live x (live c) (placed.Handler (home_of (place_beside bt others)) d) d) rest
alike (closed.SetHandler o c) at bt h =
    ap (λ s. placed.SetHandler s (place_code at c)) (source_alike at bt [] o (front at bt (used_by o) (live c) h)) ∙ ap (placed.SetHandler (source_for bt o)) (alike c at bt (back at bt (used_by o) (live c) h))
alike (closed.When o tests same other) at bt h =
    let head = used_by o ++ used_by_tests tests in
    let f : Agree at bt head = front at bt head (live same ++ live other) h in
    let g : Agree at bt (live same ++ live other) = back at bt head (live same ++ live other) h in
    ap (λ s. placed.When s (map (test_of at) tests) (place_code at same) (place_code at other)) (source_alike at bt [] o (front at bt (used_by o) (used_by_tests tests) f))
    ∙ ap (λ ts. placed.When (source_for bt o) ts (place_code at same) (place_code at other)) (tests_alike at bt tests (back at bt (used_by o) (used_by_tests tests) f))
    ∙ ap (λ d. placed.When (source_for bt o) (map (test_of bt) tests) d (place_code at other)) (alike same at bt (front at bt (live same) (live other) g))
    ∙ ap (placed.When (source_for bt o) (map (test_of bt) tests) (place_code bt same)) (alike other at bt (back at bt (live same) (live other) g))
alike (closed.Equal a b t k) at bt h =
    let g : Agree at bt (used_by b ++ used_by k) = back at bt (used_by a) (used_by b ++ used_by k) h in
    ap (λ s. placed.Equal s (source_for at b) t (source_for at k)) (source_alike at bt [] a (front at bt (used_by a) (used_by b ++ used_by k) h))
    ∙ ap (λ s. placed.Equal (source_for bt a) s t (source_for at k)) (source_alike at bt [] b (front at bt (used_by b) (used_by k) g))
    ∙ ap (placed.Equal (source_for bt a) (source_for bt b) t) (source_alike at bt [] k (back at bt (used_by b) (used_by k) g))
alike (closed.Call t f os) at bt h =
    ap (λ s. placed.Call t s (map (source_for at) os)) (source_alike at bt [] f (front at bt (used_by f) (all_used_by os) h))
    ∙ ap (placed.Call t (source_for bt f)) (sources_alike at bt [] os (back at bt (used_by f) (all_used_by os) h))
alike (closed.Throw o) at bt h = ap placed.Throw (source_alike at bt [] o h)
alike closed.Halt at bt h = refl
