-- The steps of bindings, one after another, are what the rule of places makes of them.
use Rattle.std.proofs.Common.{◌≡◌, ◌≢◌, ℕ, zero, suc, ◌+◌, ◌<◌, ◌≤◌, ◌==◌, Bool, true, false, List, [], ◌∷◌, ◌++◌, cond, length, drop, map, refl, sym, ap, ◌∙◌, subst, arith, length-set, ⊎_elim}
use Rattle.std.specs.Prelude.{slice_set, slice_index_or, ◌||◌}
use Rattle.std.specs.List.{AllByRecursion}
use Rattle.std.proofs.lemmas.List.{get_or-set_same, get_or-set_other}
use Rattle.simulation.specs.Blocks.{IsAmong}
use Rattle.sml_tree.specs.Sets.{row_at}
use Rattle.closure_ir.specs.declared.body.Maker.{Maker}
use Rattle.closure_ir.specs.declared.body.Bind.{Bind}
use Rattle.closure_ir.specs.declared.body.Bind.TheVariants as bind
use Rattle.closure_ir.specs.Code as closed
use Rattle.closure_ir.specs.Program as closing
use Rattle.placed_ir.specs.declared.home.Home.{Home}
use Rattle.placed_ir.specs.declared.body.Step.{Step}
use Rattle.placed_ir.specs.declared.body.Step.TheVariants as step
use Rattle.placed_ir.specs.Code as placed
use Rattle.placed_ir.specs.Program.{code_of_step, code_of_steps}
use Rattle.place_laws.specs.Live.{is_in, without, without_all, names_of, live}
use Rattle.place_laws.specs.Place.{least_free, home_of, Places, at_place, place_beside, at_one, at_group, maker_length, source_for, building_of, where_live, names_placed, place_code}
use Rattle.place_laws.proofs.Places.{eq_or_not, eq_true, eq_false}
use Rattle.closed_live.specs.Same.{AreSame}
use Rattle.closed_live.specs.Rows.{binds_live}
use Rattle.closed_live.proofs.Sets.{without_same, without_all_same}
use Rattle.closed_live.proofs.Table.{binds_are}
use Rattle.place_bodies.specs.Steps.{at_of, name_steps, if_alive, bind_steps, group_table, one_table, bind_table, body_steps, end_table}
use Rattle.place_bodies.proofs.Least.{map_same, least_same}
use Rattle.place_bodies.proofs.Alike.{Agree, alike}

-- ---- Steps behind one another

pub steps_append : (ss rs : List Step) (c : placed.Code) → code_of_steps (ss ++ rs) c ≡ code_of_steps ss (code_of_steps rs c)
steps_append [] rs c = refl
steps_append (s ∷ ss) rs c = ap (code_of_step s) (steps_append ss rs c)

-- ---- The table is the function of places

pub set_place : (t : List ℕ) (x p y : ℕ) → x < length t → at_of (slice_set t x p) y ≡ at_place (at_of t) x p y
set_place t x p y lt =
    ⊎_elim
    (λ (e : y ≡ x).
    ap (at_of (slice_set t x p)) e ∙ get_or-set_same t x p 0 lt ∙ sym (ap (λ b. cond b p (at_of t y)) (eq_true y x e)))
    (λ (n : y ≢ x). get_or-set_other t x y p 0 n ∙ sym (ap (λ b. cond b p (at_of t y)) (eq_false y x n)))
    (eq_or_not y x)

-- places that agree everywhere
abbrev AllAgree : Places → Places → Type 0
AllAgree at bt = (y : ℕ) → at y ≡ bt y

group_all : (alive : List ℕ) (makers : List Maker) (taken : List ℕ) (at bt : Places) → AllAgree at bt → AllAgree (at_group alive makers taken at) (at_group alive makers taken bt)
group_all alive [] taken at bt h = h
group_all alive (m ∷ makers) taken at bt h =
    by (is_in m.var alive) (group_all alive makers (least_free taken ∷ taken) (at_place at m.var (least_free taken)) (at_place bt m.var (least_free taken)) (λ y. ap (cond (y == m.var) (least_free taken)) (h y))) (group_all alive makers taken at bt h)
  where
    by : (b : Bool) → AllAgree (at_group alive makers (least_free taken ∷ taken) (at_place at m.var (least_free taken))) (at_group alive makers (least_free taken ∷ taken) (at_place bt m.var (least_free taken))) → AllAgree (at_group alive makers taken at) (at_group alive makers taken bt) → AllAgree (cond b (at_group alive makers (least_free taken ∷ taken) (at_place at m.var (least_free taken))) (at_group alive makers taken at)) (cond b (at_group alive makers (least_free taken ∷ taken) (at_place bt m.var (least_free taken))) (at_group alive makers taken bt))
    by true f g = f
    by false f g = g

pub group_length : (alive : List ℕ) (makers : List Maker) (taken t : List ℕ) → length (group_table alive makers taken t) ≡ length t
group_length alive [] taken t = refl
group_length alive (m ∷ makers) taken t =
    by (is_in m.var alive) (group_length alive makers (least_free taken ∷ taken) (slice_set t m.var (least_free taken)) ∙ length-set t m.var (least_free taken)) (group_length alive makers taken t)
  where
    by : (b : Bool) → length (group_table alive makers (least_free taken ∷ taken) (slice_set t m.var (least_free taken))) ≡ length t → length (group_table alive makers taken t) ≡ length t → length (cond b (group_table alive makers (least_free taken ∷ taken) (slice_set t m.var (least_free taken))) (group_table alive makers taken t)) ≡ length t
    by true f g = f
    by false f g = g

group_places : (alive : List ℕ) (makers : List Maker) (taken t : List ℕ) → AllByRecursion (λ m. m.var < length t) makers → AllAgree (at_of (group_table alive makers taken t)) (at_group alive makers taken (at_of t))
group_places alive [] taken t h = λ y. refl
group_places alive (m ∷ makers) taken t h =
    by (is_in m.var alive) (λ g. group_places alive makers (least_free taken ∷ taken) (slice_set t m.var (least_free taken)) g) (group_places alive makers taken t h.1)
  where
    fits : (ks : List Maker) → AllByRecursion (λ k. k.var < length t) ks → AllByRecursion (λ k. k.var < length (slice_set t m.var (least_free taken))) ks
    fits [] g = tt
    fits (k ∷ ks) g = (subst (λ n. k.var < n) (sym (length-set t m.var (least_free taken))) g.0, fits ks g.1)

    by : (b : Bool) → (AllByRecursion (λ k. k.var < length (slice_set t m.var (least_free taken))) makers → AllAgree (at_of (group_table alive makers (least_free taken ∷ taken) (slice_set t m.var (least_free taken)))) (at_group alive makers (least_free taken ∷ taken) (at_of (slice_set t m.var (least_free taken))))) → AllAgree (at_of (group_table alive makers taken t)) (at_group alive makers taken (at_of t)) → AllAgree (at_of (cond b (group_table alive makers (least_free taken ∷ taken) (slice_set t m.var (least_free taken))) (group_table alive makers taken t))) (cond b (at_group alive makers (least_free taken ∷ taken) (at_place (at_of t) m.var (least_free taken))) (at_group alive makers taken (at_of t)))
    by true f g y =
        f (fits makers h.1) y ∙ group_all alive makers (least_free taken ∷ taken) (at_of (slice_set t m.var (least_free taken))) (at_place (at_of t) m.var (least_free taken)) (λ z. set_place t m.var (least_free taken) z h.0) y
    by false f g y = g y

-- ---- Lists of what lives with the same members

names_same : (us vs : List ℕ) (makers : List Maker) (offset : ℕ) (ts ss : List ℕ) (c : placed.Code) → AreSame us vs → AreSame ts ss → names_placed us makers offset ts c ≡ names_placed vs makers offset ss c
names_same us vs [] offset ts ss c h g = refl
names_same us vs (m ∷ makers) offset ts ss c h g =
    let p : least_free ts ≡ least_free ss = least_same ts ss g in
    let on = offset + suc (maker_length m) in
    let more : AreSame (least_free ts ∷ ts) (least_free ss ∷ ss) = subst (λ q. AreSame (least_free ts ∷ ts) (q ∷ ss)) p (λ z. ap (λ b. (least_free ts == z) || b) (g z)) in
    ap (λ b. cond b (placed.Name (home_of (least_free ts)) offset (names_placed us makers on (least_free ts ∷ ts) c)) (names_placed us makers on ts c)) (h m.var)
    ∙ ap (λ q. cond (is_in m.var vs) (placed.Name (home_of q) offset (names_placed us makers on (least_free ts ∷ ts) c)) (names_placed us makers on ts c)) p
    ∙ ap (λ d. cond (is_in m.var vs) (placed.Name (home_of (least_free ss)) offset d) (names_placed us makers on ts c)) (names_same us vs makers on (least_free ts ∷ ts) (least_free ss ∷ ss) c h more)
    ∙ ap (cond (is_in m.var vs) (placed.Name (home_of (least_free ss)) offset (names_placed vs makers on (least_free ss ∷ ss) c))) (names_same us vs makers on ts ss c h g)

group_same : (us vs : List ℕ) (makers : List Maker) (ts ss : List ℕ) (at : Places) → AreSame us vs → AreSame ts ss → at_group us makers ts at ≡ at_group vs makers ss at
group_same us vs [] ts ss at h g = refl
group_same us vs (m ∷ makers) ts ss at h g =
    let p : least_free ts ≡ least_free ss = least_same ts ss g in
    let more : AreSame (least_free ts ∷ ts) (least_free ss ∷ ss) = subst (λ q. AreSame (least_free ts ∷ ts) (q ∷ ss)) p (λ z. ap (λ b. (least_free ts == z) || b) (g z)) in
    ap (λ b. cond b (at_group us makers (least_free ts ∷ ts) (at_place at m.var (least_free ts))) (at_group us makers ts at)) (h m.var)
    ∙ ap (λ q. cond (is_in m.var vs) (at_group us makers (least_free ts ∷ ts) (at_place at m.var q)) (at_group us makers ts at)) p
    ∙ ap (λ f. cond (is_in m.var vs) f (at_group us makers ts at)) (group_same us vs makers (least_free ts ∷ ts) (least_free ss ∷ ss) (at_place at m.var (least_free ss)) h more)
    ∙ ap (cond (is_in m.var vs) (at_group vs makers (least_free ss ∷ ss) (at_place at m.var (least_free ss)))) (group_same us vs makers ts ss at h g)

names_steps : (alive : List ℕ) (makers : List Maker) (offset : ℕ) (taken : List ℕ) (c : placed.Code) → names_placed alive makers offset taken c ≡ code_of_steps (name_steps alive makers offset taken) c
names_steps alive [] offset taken c = refl
names_steps alive (m ∷ makers) offset taken c =
    by (is_in m.var alive) (names_steps alive makers (offset + suc (maker_length m)) (least_free taken ∷ taken) c) (names_steps alive makers (offset + suc (maker_length m)) taken c)
  where
    by : (b : Bool) → names_placed alive makers (offset + suc (maker_length m)) (least_free taken ∷ taken) c ≡ code_of_steps (name_steps alive makers (offset + suc (maker_length m)) (least_free taken ∷ taken)) c → names_placed alive makers (offset + suc (maker_length m)) taken c ≡ code_of_steps (name_steps alive makers (offset + suc (maker_length m)) taken) c → cond b (placed.Name (home_of (least_free taken)) offset (names_placed alive makers (offset + suc (maker_length m)) (least_free taken ∷ taken) c)) (names_placed alive makers (offset + suc (maker_length m)) taken c) ≡ code_of_steps (cond b (step.Name (home_of (least_free taken)) offset ∷ name_steps alive makers (offset + suc (maker_length m)) (least_free taken ∷ taken)) (name_steps alive makers (offset + suc (maker_length m)) taken)) c
    by true f g = ap (placed.Name (home_of (least_free taken)) offset) f
    by false f g = g

-- one form where a variable lives on
alive_steps : (x : ℕ) (alive : List ℕ) (s : Step) (c : placed.Code) → where_live x alive (code_of_step s c) c ≡ code_of_steps (if_alive x alive s) c
alive_steps x alive s c = by (is_in x alive)
  where
    by : (b : Bool) → cond b (code_of_step s c) c ≡ code_of_steps (cond b (s ∷ []) []) c
    by true = refl
    by false = refl

-- ---- One binding

-- the variables that it binds have places in the table
abbrev pub Fits : ℕ → Bind → Type 0
Fits n (bind.Make makers) = AllByRecursion (λ m. m.var < n) makers
Fits n (bind.Let x o) = x < n
Fits n (bind.Prim x f os) = x < n
Fits n (bind.Handler x) = x < n
Fits n (bind.SetHandler o) = Unit {0}

pub bind_length : (t : List ℕ) (b : Bind) (alive : List ℕ) → length (bind_table t b alive) ≡ length t
bind_length t (bind.Make makers) alive = group_length alive makers (map (at_of t) (without_all (names_of makers) alive)) t
bind_length t (bind.Let x o) alive = length-set t x (place_beside (at_of t) (without x alive))
bind_length t (bind.Prim x f os) alive = length-set t x (place_beside (at_of t) (without x alive))
bind_length t (bind.Handler x) alive = length-set t x (place_beside (at_of t) (without x alive))
bind_length t (bind.SetHandler o) alive = refl

-- behind one variable
behind_one : (t : List ℕ) (x : ℕ) (alive : List ℕ) (c : closed.Code) → x < length t → AreSame alive (live c) → place_code (at_one (at_of t) x (without x (live c))) c ≡ place_code (at_of (one_table t x alive)) c
behind_one t x alive c lt h =
    let at = at_of t in
    let p : place_beside at (without x (live c)) ≡ place_beside at (without x alive) =
    sym (least_same (map at (without x alive)) (map at (without x (live c))) (map_same at (without x alive) (without x (live c)) (without_same x alive (live c) h))) in
    ap (λ q. place_code (at_place at x q) c) p
    ∙ alike c (at_place at x (place_beside at (without x alive))) (at_of (one_table t x alive)) (λ y m. sym (set_place t x (place_beside at (without x alive)) y lt))

one_place : (t : List ℕ) (x : ℕ) (alive : List ℕ) (c : closed.Code) → AreSame alive (live c) → place_beside (at_of t) (without x (live c)) ≡ place_beside (at_of t) (without x alive)
one_place t x alive c h =
    sym (least_same (map (at_of t) (without x alive)) (map (at_of t) (without x (live c))) (map_same (at_of t) (without x alive) (without x (live c)) (without_same x alive (live c) h)))

-- a form that is there if the variable lives on, by what lives and what is made of its home
one_form : (t : List ℕ) (x : ℕ) (alive : List ℕ) (c : closed.Code) (f : Home → Step) → x < length t → AreSame alive (live c) →
    where_live x (live c) (code_of_step (f (home_of (place_beside (at_of t) (without x (live c))))) (place_code (at_one (at_of t) x (without x (live c))) c)) (place_code (at_one (at_of t) x (without x (live c))) c)
    ≡ code_of_steps (if_alive x alive (f (home_of (place_beside (at_of t) (without x alive))))) (place_code (at_of (one_table t x alive)) c)
one_form t x alive c f lt h =
    let at = at_of t in
    let there = place_code (at_one at x (without x (live c))) c in
    ap (λ d. where_live x (live c) (code_of_step (f (home_of (place_beside at (without x (live c))))) d) d) (behind_one t x alive c lt h)
    ∙ ap (λ q. where_live x (live c) (code_of_step (f (home_of q)) (place_code (at_of (one_table t x alive)) c)) (place_code (at_of (one_table t x alive)) c)) (one_place t x alive c h)
    ∙ ap (λ b. cond b (code_of_step (f (home_of (place_beside at (without x alive)))) (place_code (at_of (one_table t x alive)) c)) (place_code (at_of (one_table t x alive)) c)) (sym (h x))
    ∙ alive_steps x alive (f (home_of (place_beside at (without x alive)))) (place_code (at_of (one_table t x alive)) c)

pub bind_placed : (t : List ℕ) (b : Bind) (alive : List ℕ) (c : closed.Code) → Fits (length t) b → AreSame alive (live c) → place_code (at_of t) (closing.code_of_bind b c) ≡ code_of_steps (bind_steps (at_of t) b alive) (place_code (at_of (bind_table t b alive)) c)
bind_placed t (bind.Make makers) alive c fit h =
    let at = at_of t in
    let mine = map at (without_all (names_of makers) alive) in
    let all = map at (without_all (names_of makers) (live c)) in
    let same : AreSame mine all = map_same at (without_all (names_of makers) alive) (without_all (names_of makers) (live c)) (without_all_same (names_of makers) alive (live c) h) in
    let rest : place_code (at_group (live c) makers all at) c ≡ place_code (at_of (group_table alive makers mine t)) c =
    ap (λ f. place_code f c) (sym (group_same alive (live c) makers mine all at h same))
    ∙ alike c (at_group alive makers mine at) (at_of (group_table alive makers mine t)) (λ y m. sym (group_places alive makers mine t fit y)) in
    ap (placed.Make (map (building_of at makers) makers))
    (ap (names_placed (live c) makers 0 all) rest
    ∙ sym (names_same alive (live c) makers 0 mine all (place_code (at_of (group_table alive makers mine t)) c) h same)
    ∙ names_steps alive makers 0 mine (place_code (at_of (group_table alive makers mine t)) c))
bind_placed t (bind.Let x o) alive c fit h = one_form t x alive c (λ home. step.Let home (source_for (at_of t) o)) fit h
bind_placed t (bind.Prim x f os) alive c fit h = ap (placed.Prim f (map (source_for (at_of t)) os)) (one_form t x alive c step.Take fit h)
bind_placed t (bind.Handler x) alive c fit h = one_form t x alive c step.Handler fit h
bind_placed t (bind.SetHandler o) alive c fit h = refl

-- ---- Bindings one after another

-- the lists have what lives behind each binding
abbrev pub AreBehind : List Bind → List (List ℕ) → List ℕ → Type 0
AreBehind (b ∷ binds) (alive ∷ along) last = AreSame alive (binds_live binds last) × AreBehind binds along last
AreBehind (b ∷ binds) [] last = ⊥
AreBehind [] along last = Unit {0}

pub binds_placed : (t : List ℕ) (binds : List Bind) (along : List (List ℕ)) (c : closed.Code) → AllByRecursion (Fits (length t)) binds → AreBehind binds along (live c) → place_code (at_of t) (closing.code_of_binds binds c) ≡ code_of_steps (body_steps t binds along) (place_code (at_of (end_table t binds along)) c)
binds_placed t [] along c fit h = refl
binds_placed t (b ∷ binds) [] c fit h = absurd h
binds_placed t (b ∷ binds) (alive ∷ along) c fit h =
    let rest = closing.code_of_binds binds c in
    let lives : AreSame alive (live rest) = λ z. h.0 z ∙ sym (ap (is_in z) (binds_are (λ i. c) binds c)) in
    let next = bind_table t b alive in
    let fits : AllByRecursion (Fits (length next)) binds = subst (λ n. AllByRecursion (Fits n) binds) (sym (bind_length t b alive)) fit.1 in
    bind_placed t b alive rest fit.0 lives
    ∙ ap (code_of_steps (bind_steps (at_of t) b alive)) (binds_placed next binds along c fits h.1)
    ∙ sym (steps_append (bind_steps (at_of t) b alive) (body_steps next binds along) (place_code (at_of (end_table next binds along)) c))
