-- Each step of a body is answered by steps of the placed body.
use Rattle.std.specs.Prelude.{pos}
use Rattle.std.proofs.Common.{◌≡◌, ◌≢◌, ℕ, suc, ◌+◌, ◌<◌, ◌==◌, ◌&&◌, List, [], ◌∷◌, ◌++◌, map, set, length, Option, Some, None, slice_get, cond, Bool, true, false, inl, inr, refl, sym, ap, ap₂, ◌∙◌, subst, arith, ⊎_elim}
use Rattle.std.proofs.lemmas.List.{length-map}
use Rattle.smlc_base.specs.declared.primitive.Primitive.{Primitive}
use Rattle.smlc_base.specs.declared.point.Point.{Point}
use Rattle.simulation.specs.Blocks.{IsAmong}
use Rattle.simulation.specs.Stores.{gives_way, may_replace, replaced, configured, wrote, acted, makes}
use Rattle.simulation.proofs.Stores.{put_done}
use Rattle.simulation.proofs.Forward.{Goes, stays_on, goes_one, goes_first}
use Rattle.simulation.proofs.Lists.{some_eq, map_among, among_left, among_right}
use Rattle.sml_def.specs.Maybe.{◌>>=◌}
use Rattle.closure_ir.specs.declared.operand.Operand.{Operand}
use Rattle.closure_ir.specs.declared.body.Maker.{Maker}
use Rattle.closure_ir.specs.declared.body.Target.{Target}
use Rattle.closure_ir.specs.declared.body.Target.TheVariants as target
use Rattle.closure_ir.specs.declared.body.Test.{Test}
use Rattle.closure_ir.specs.Words.{Word, Num, At, Cell, Vars, extra_words, look, all_looked}
use Rattle.closure_ir.specs.Answers.{Growing, Result, Gives, Builds, Sets, Raises, Answer, answer, grown}
use Rattle.closure_ir.specs.Answers as near_answers
use Rattle.closure_ir.specs.Code as closed
use Rattle.closure_ir.specs.Step as near
use Rattle.closure_ir.specs.Step.{bound, bound_all, numbered, all_made}
use Rattle.closure_ir.specs.Run.{ClosedState, view_cell, sort_kind}
use Rattle.placed_ir.specs.Code as placed
use Rattle.placed_ir.specs.Arena.{Slot, Held, Registers, settled, with_base, with_result, with_handler, held_at, home_word, slots_of, read, all_read, all_built, offset_in, view_slot}
use Rattle.placed_ir.specs.Step as far
use Rattle.placed_ir.specs.Step.{growing_length, group_at, laid, puts_home}
use Rattle.placed_ir.specs.Run.{PlacedState}
use Rattle.place_laws.specs.Live.{is_in, without_all, used_by, all_used_by, used_by_makers, used_by_tests, names_of, live}
use Rattle.place_laws.specs.Place.{Places, greater, home_spills, spills, home_of, at_place, at_one, at_group, place_beside, maker_length, names_placed, source_for, building_of, test_of, beside, beside_group, place_code, place_program}
use Rattle.place_laws.specs.Lies.{Same, same_num, SameAll, Heap}
use Rattle.place_laws.proofs.Values.{same_more, all_length}
use Rattle.place_laws.proofs.Heap.{heap_kept, heap_group, heap_built, group_home, starts, wider, last_same, SameCells, SameGrowing, no_growing, more_growing, label_same, IsAt, is_at}
use Rattle.place_laws.proofs.Places.{eq_false, in_among, not_among, among_or_not, free_fresh, without_keeps, without_all_keeps, without_all_in, greater_left, greater_right}
use Rattle.place_laws.proofs.Reading.{Fits, fits_fewer, all_made_same, group_new, looked, all_looked_same, tests_follow}
use Rattle.place_laws.proofs.Writing.{FrameFits, frame_fewer, frame_more, put_in, fits_bind, fits_grown, fits_alike, fits_set, frame_set, heap_set, ref_cell}
use Rattle.place_laws.proofs.Naming.{names_spills, names_run}
use Rattle.place_laws.proofs.Meant.{SameResult, gives_same, builds_same, sets_same, raises_same, SameAnswer, answer_same}
use Rattle.place_laws.proofs.Comparing.{Both, calls_both, throws_both, equals_both}
use Rattle.place_laws.proofs.Relation.{near_at, far_at, A, B, waits, Related, running, Quiet}

-- where b goes on to from t, when a has come to s
abbrev pub GoesTo : closed.Tree → ℕ → ClosedState → PlacedState → Type 0
GoesTo p w s t = Goes (B p) (Quiet p) (λ v u. Related v s u) w t

-- what a step begins with is there
came : {X : Type 0} (points : List Point) (out : List ℕ) (cells : List Cell) (s' : ClosedState) (o : Option X) (f : X → near.Goes) → acted (view_cell points) out cells (o >>= f) ≡ Some s' → (x : X) × (o ≡ Some x) × (acted (view_cell points) out cells (f x) ≡ Some s')
came points out cells s' None f e = absurd (cc)
came points out cells s' (Some x) f e = (x, refl, e)

-- and so it is in the placed machine
comes : {X : Type 0} (points : List Point) (out : List ℕ) (slots : List Slot) (o : Option X) (f : X → far.Goes) (x : X) → o ≡ Some x → acted (view_slot points) out slots (o >>= f) ≡ acted (view_slot points) out slots (f x)
comes {X} points out slots o f x e = ap (λ (t : Option X). acted (view_slot points) out slots (t >>= f)) e

-- what nothing reads is bound
fits_forgotten : (homes : List ℕ) (slots : List Slot) (r : Registers) (env : Vars) (at : Places) (vars few : List ℕ) (x q : ℕ) (u : Word) → (IsAmong x vars → ⊥) → ((y : ℕ) → IsAmong y vars → y ≢ x → IsAmong y few) → Fits homes slots r env at few → Fits homes slots r (bound env x u) (at_place at x q) vars
fits_forgotten homes slots r env at vars few x q u n f h y m t e =
    let other : y ≢ x = λ k. n (subst (λ z. IsAmong z vars) k m) in
    let b = eq_false y x other in
    let o = h y (f y m other) t (sym (ap (λ b. cond b (Some u) (env y)) b) ∙ e) in
    (o.0, ap (λ b. home_word slots r (home_of (cond b q (at y)))) b ∙ o.1, o.2)

-- ---- Binding

module _ (p : closed.Tree) (env : Vars) (h : Word) (at : Places) (input out homes : List ℕ) (cells : List Cell) (slots : List Slot) (hp : Heap homes cells slots) (x : ℕ) (c : closed.Code) where
  abbrev Spot : ℕ
  Spot = place_beside at (beside x c)

  abbrev There : placed.Code
  There = place_code (at_one at x (beside x c)) c

  abbrev Next : Word → ClosedState
  Next u = near_at (near.Running c (bound env x u) h) input out cells

  -- x gets its home and goes on
  binds : (w : ℕ) (r : Registers) (u v : Word) → Same homes h r.handler → Same homes u v → Fits homes slots r env at (beside x c) → FrameFits slots r.frame (greater (home_spills (home_of Spot)) (spills There)) → (t : PlacedState) → (B p).step t ≡ acted (view_slot p.points) out slots (puts_home (record { slots = slots; input = input }) There r (home_of Spot) v) → Quiet p t → GoesTo p w (Next u) t
  binds w r u v sh s fits frame t e quiet =
      let put = put_in p.points input There slots r (home_of Spot) v (frame_fewer slots r.frame (home_spills (home_of Spot)) (greater (home_spills (home_of Spot)) (spills There)) (greater_left (home_spills (home_of Spot)) (spills There)) frame) in
      goes_one (B p) (Quiet p) (λ z y. Related z (Next u) y) w (waits c) t (far_at (far.Running There put.registers) input out put.after) (e ∙ put.step out) quiet
      (running c (bound env x u) h (at_one at x (beside x c)) put.registers input out homes cells put.after
      (heap_kept homes cells slots put.after put.on put.back hp)
      (fits_bind homes p.points input There slots r env at (live c) (beside x c) x Spot u v put s (λ y m n. let i = without_keeps x y (live c) m n in (i, free_fresh (map at (beside x c)) (at y) (map_among at y (beside x c) i))) fits)
      (subst (Same homes h) (sym put.handler) sh)
      (put.frame (spills There) (frame_fewer slots r.frame (spills There) (greater (home_spills (home_of Spot)) (spills There)) (greater_right (home_spills (home_of Spot)) (spills There)) frame)))

  -- nothing reads x
  forgets : (r : Registers) (u : Word) → Same homes h r.handler → (IsAmong x (live c) → ⊥) → Fits homes slots r env at (beside x c) → FrameFits slots r.frame (spills There) → Related (waits c) (Next u) (far_at (far.Running There r) input out slots)
  forgets r u sh n fits frame =
      running c (bound env x u) h (at_one at x (beside x c)) r input out homes cells slots hp
      (fits_forgotten homes slots r env at (live c) (beside x c) x Spot u n (λ y m k. without_keeps x y (live c) m k) fits) sh frame

  -- a form that stands where x lives on
  forms : (r : Registers) (u v : Word) (form : placed.Code) → Same homes h r.handler → Same homes u v → Fits homes slots r env at (beside x c) → spills form ≡ greater (home_spills (home_of Spot)) (spills There) → ((B p).step (far_at (far.Running form r) input out slots) ≡ acted (view_slot p.points) out slots (puts_home (record { slots = slots; input = input }) There (settled r) (home_of Spot) v)) → (b : Bool) → is_in x (live c) ≡ b → FrameFits slots r.frame (spills (cond b form There)) → GoesTo p (suc (waits c)) (Next u) (far_at (far.Running (cond b form There) r) input out slots)
  forms r u v form sh s fits k e true i frame =
      binds (suc (waits c)) (settled r) u v sh s (fits_alike homes slots r (settled r) env at (beside x c) (refl, refl) fits) (subst (FrameFits slots r.frame) k frame) (far_at (far.Running form r) input out slots) e (quiet form r)
    where
      quiet : (form : placed.Code) (r : Registers) → Quiet p (far_at (far.Running form r) input out slots)
      quiet form r = refl
  forms r u v form sh s fits k e false i frame =
      stays_on (B p) (Quiet p) (λ z y. Related z (Next u) y) (suc (waits c)) (waits c) (far_at (far.Running There r) input out slots) (omega arith) (forgets r u sh (not_among x (live c) i) fits frame)

-- ---- Bodies

module _ (p : closed.Tree) (env : Vars) (h : Word) (at : Places) (r : Registers) (input out homes : List ℕ) (cells : List Cell) (slots : List Slot) (hp : Heap homes cells slots) (sh : Same homes h r.handler) (s' : ClosedState) where
  abbrev nm : near.Store
  nm = record { cells = cells; input = input }

  abbrev fm : far.Store
  fm = record { slots = slots; input = input }

  abbrev From : closed.Code → PlacedState
  From c = far_at (far.Running (place_code at c) r) input out slots

  abbrev Steps : closed.Code → Type 0
  Steps c = Fits homes slots r env at (live c) → FrameFits slots r.frame (spills (place_code at c)) → acted (view_cell p.points) out cells (near.runs p nm c env h) ≡ Some s' → GoesTo p (waits c) s' (From c)

  let_goes : (x : ℕ) (o : Operand) (c : closed.Code) → Steps (closed.Let x o c)
  let_goes x o c fits frame e =
      let all = live (closed.Let x o c) in
      let m = came p.points out cells s' (look (slice_get cells) env [] o) (λ w. near.on nm (near.Running c (bound env x w) h)) e in
      let q = looked homes cells slots hp r env at all fits o m.0 (λ y i. among_left y (used_by o) (beside x c) i) m.1 in
      let spot = home_of (place_beside at (beside x c)) in
      let there = place_code (at_one at x (beside x c)) c in
      some_eq (λ z. GoesTo p (suc (waits c)) z (From (closed.Let x o c))) (near_at (near.Running c (bound env x m.0) h) input out cells) s' m.2
      (forms p env h at input out homes cells slots hp x c r m.0 q.0 (placed.Let spot (source_for at o) there) sh q.2
      (fits_fewer homes slots r env at (beside x c) all (λ y i. among_right y (used_by o) (beside x c) i) fits) refl
      (comes p.points out slots (read slots r None (source_for at o)) (puts_home fm there (settled r) spot) q.0 q.1)
      (is_in x (live c)) refl frame)

  handler_goes : (x : ℕ) (c : closed.Code) → Steps (closed.Handler x c)
  handler_goes x c fits frame e =
      let spot = home_of (place_beside at (beside x c)) in
      let there = place_code (at_one at x (beside x c)) c in
      some_eq (λ z. GoesTo p (suc (waits c)) z (From (closed.Handler x c))) (near_at (near.Running c (bound env x h) h) input out cells) s' e
      (forms p env h at input out homes cells slots hp x c r h r.handler (placed.Handler spot there) sh sh fits refl refl (is_in x (live c)) refl frame)

  set_goes : (o : Operand) (c : closed.Code) → Steps (closed.SetHandler o c)
  set_goes o c fits frame e =
      let all = live (closed.SetHandler o c) in
      let m = came p.points out cells s' (look (slice_get cells) env [] o) (λ w. near.on nm (near.Running c env w)) e in
      let q = looked homes cells slots hp r env at all fits o m.0 (λ y i. among_left y (used_by o) (live c) i) m.1 in
      let to = near_at (near.Running c env m.0) input out cells in
      some_eq (λ z. GoesTo p 0 z (From (closed.SetHandler o c))) to s' m.2
      (goes_one (B p) (Quiet p) (λ z y. Related z to y) 0 (waits c) (From (closed.SetHandler o c)) (far_at (far.Running (place_code at c) (with_handler r q.0)) input out slots)
      (comes p.points out slots (read slots r None (source_for at o)) (λ w. far.on fm (far.Running (place_code at c) (with_handler r w))) q.0 q.1) refl
      (running c env m.0 at (with_handler r q.0) input out homes cells slots hp
      (fits_alike homes slots r (with_handler r q.0) env at (live c) (refl, refl) (fits_fewer homes slots r env at (live c) all (λ y i. among_right y (used_by o) (live c) i) fits)) q.2 frame))

  -- one of two bodies goes on
  chosen : (vars : List ℕ) (same other : closed.Code) → Fits homes slots r env at vars → ((y : ℕ) → IsAmong y (live same ++ live other) → IsAmong y vars) → FrameFits slots r.frame (greater (spills (place_code at same)) (spills (place_code at other))) → (b : Bool) → Related (waits (cond b same other)) (near_at (near.Running (cond b same other) env h) input out cells) (far_at (far.Running (cond b (place_code at same) (place_code at other)) (settled r)) input out slots)
  chosen vars same other fits f frame true =
      running same env h at (settled r) input out homes cells slots hp
      (fits_alike homes slots r (settled r) env at (live same) (refl, refl) (fits_fewer homes slots r env at (live same) vars (λ y i. f y (among_left y (live same) (live other) i)) fits)) sh
      (frame_fewer slots r.frame (spills (place_code at same)) (greater (spills (place_code at same)) (spills (place_code at other))) (greater_left (spills (place_code at same)) (spills (place_code at other))) frame)
  chosen vars same other fits f frame false =
      running other env h at (settled r) input out homes cells slots hp
      (fits_alike homes slots r (settled r) env at (live other) (refl, refl) (fits_fewer homes slots r env at (live other) vars (λ y i. f y (among_right y (live same) (live other) i)) fits)) sh
      (frame_fewer slots r.frame (spills (place_code at other)) (greater (spills (place_code at same)) (spills (place_code at other))) (greater_right (spills (place_code at same)) (spills (place_code at other))) frame)

  when_goes : (o : Operand) (tests : List Test) (same other : closed.Code) → Steps (closed.When o tests same other)
  when_goes o tests same other fits frame e =
      let all = live (closed.When o tests same other) in
      let used = used_by o ++ used_by_tests tests in
      let m = came p.points out cells s' (look (slice_get cells) env [] o) (λ w. near_answers.all_stand p.texts (slice_get cells) env w tests >>= (λ b. near.on nm (near.Running (cond b same other) env h))) e in
      let n = came p.points out cells s' (near_answers.all_stand p.texts (slice_get cells) env m.0 tests) (λ b. near.on nm (near.Running (cond b same other) env h)) m.2 in
      let q = looked homes cells slots hp r env at all fits o m.0 (λ y i. among_left y used (live same ++ live other) (among_left y (used_by o) (used_by_tests tests) i)) m.1 in
      let t = tests_follow homes cells slots hp r env at all fits p.texts tests m.0 q.0 n.0 (λ y i. among_left y used (live same ++ live other) (among_right y (used_by o) (used_by_tests tests) i)) q.2 n.1 in
      let to = near_at (near.Running (cond n.0 same other) env h) input out cells in
      let going = λ (b : Bool). far.on fm (far.Running (cond b (place_code at same) (place_code at other)) (settled r)) in
      some_eq (λ z. GoesTo p 0 z (From (closed.When o tests same other))) to s' n.2
      (goes_one (B p) (Quiet p) (λ z y. Related z to y) 0 (waits (cond n.0 same other)) (From (closed.When o tests same other)) (far_at (far.Running (cond n.0 (place_code at same) (place_code at other)) (settled r)) input out slots)
      (comes p.points out slots (read slots r None (source_for at o)) (λ w. far.all_stand p.texts slots r w (map (test_of at) tests) >>= going) q.0 q.1
      ∙ comes p.points out slots (far.all_stand p.texts slots r q.0 (map (test_of at) tests)) going n.0 t) refl
      (chosen all same other fits (λ y i. among_right y used (live same ++ live other) i) frame n.0))

  -- a state that the machine comes to in one step
  finishes : (w : ℕ) (t : PlacedState) (act : far.Goes) → Both p input out homes cells slots hp s' act → (B p).step t ≡ acted (view_slot p.points) out slots act → Quiet p t → GoesTo p w s' t
  finishes w t act c e quiet = goes_one (B p) (Quiet p) (λ z y. Related z s' y) w 0 t c.next (e ∙ c.done) quiet c.then

  throw_goes : (o : Operand) → Steps (closed.Throw o)
  throw_goes o fits frame e =
      let m = came p.points out cells s' (look (slice_get cells) env [] o) (λ w. near.throws p nm w h) e in
      let q = looked homes cells slots hp r env at (live (closed.Throw o)) fits o m.0 (λ y i. i) m.1 in
      finishes 0 (From (closed.Throw o)) (far.throws (place_program p) fm q.0 r.handler) (throws_both p input out homes cells slots hp s' m.0 q.0 h r.handler q.2 sh m.2)
      (comes p.points out slots (read slots r None (source_for at o)) (λ w. far.throws (place_program p) fm w r.handler) q.0 q.1) refl

  label_for_same : (t : Target) (u v : Word) (l : ℕ) → Same homes u v → near.label_for p nm t u ≡ Some l → far.label_for (place_program p) fm t v ≡ Some l
  label_for_same (target.Known k) u v l s e = e
  label_for_same target.Through u v l s e = label_same homes cells slots hp u v l s e

  call_goes : (t : Target) (f : Operand) (os : List Operand) → Steps (closed.Call t f os)
  call_goes t f os fits frame e =
      let all = live (closed.Call t f os) in
      let m = came p.points out cells s' (look (slice_get cells) env [] f) (λ w. all_looked (slice_get cells) env [] os >>= (λ ws. near.calls p nm (near.label_for p nm t w) w ws h)) e in
      let n = came p.points out cells s' (all_looked (slice_get cells) env [] os) (λ ws. near.calls p nm (near.label_for p nm t m.0) m.0 ws h) m.2 in
      let a = looked homes cells slots hp r env at all fits f m.0 (λ y i. among_left y (used_by f) (all_used_by os) i) m.1 in
      let q = all_looked_same homes cells slots hp r env at all fits os n.0 (λ y i. among_right y (used_by f) (all_used_by os) i) n.1 in
      let calling = λ (w : Word) (ws : List Word). far.calls (place_program p) fm (far.label_for (place_program p) fm t w) w ws r.handler in
      finishes 0 (From (closed.Call t f os)) (calling a.0 q.0)
      (calls_both p input out homes cells slots hp s' (near.label_for p nm t m.0) (far.label_for (place_program p) fm t a.0) m.0 a.0 n.0 q.0 h r.handler (λ l i. label_for_same t m.0 a.0 l a.2 i) a.2 q.2 sh n.2)
      (comes p.points out slots (read slots r None (source_for at f)) (λ w. all_read slots r None (map (source_for at) os) >>= calling w) a.0 a.1
      ∙ comes p.points out slots (all_read slots r None (map (source_for at) os)) (calling a.0) q.0 q.1) refl

  equal_goes : (a b : Operand) (t : Bool) (k : Operand) → Steps (closed.Equal a b t k)
  equal_goes a b t k fits frame e =
      let all = live (closed.Equal a b t k) in
      let rest = used_by b ++ used_by k in
      let l = came p.points out cells s' (look (slice_get cells) env [] a) (λ u. look (slice_get cells) env [] b >>= (λ v. look (slice_get cells) env [] k >>= (λ w. near.equals p nm u v t w h))) e in
      let m = came p.points out cells s' (look (slice_get cells) env [] b) (λ v. look (slice_get cells) env [] k >>= (λ w. near.equals p nm l.0 v t w h)) l.2 in
      let n = came p.points out cells s' (look (slice_get cells) env [] k) (λ w. near.equals p nm l.0 m.0 t w h) m.2 in
      let x = looked homes cells slots hp r env at all fits a l.0 (λ y i. among_left y (used_by a) rest i) l.1 in
      let z = looked homes cells slots hp r env at all fits b m.0 (λ y i. among_right y (used_by a) rest (among_left y (used_by b) (used_by k) i)) m.1 in
      let q = looked homes cells slots hp r env at all fits k n.0 (λ y i. among_right y (used_by a) rest (among_right y (used_by b) (used_by k) i)) n.1 in
      let equal = λ (u v w : Word). far.equals (place_program p) fm u v t w r.handler in
      let third = read slots r None (source_for at k) in
      let second = read slots r None (source_for at b) in
      finishes 0 (From (closed.Equal a b t k)) (equal x.0 z.0 q.0) (equals_both p input out homes cells slots hp s' l.0 m.0 x.0 z.0 t n.0 q.0 h r.handler x.2 z.2 q.2 sh n.2)
      (comes p.points out slots (read slots r None (source_for at a)) (λ u. second >>= (λ v. third >>= equal u v)) x.0 x.1
      ∙ comes p.points out slots second (λ v. third >>= equal x.0 v) z.0 z.1
      ∙ comes p.points out slots third (equal x.0 z.0) q.0 q.1) refl

  make_goes : (makers : List Maker) (c : closed.Code) → Steps (closed.Make makers c)
  make_goes makers c fits frame e =
      let b = length slots in
      let all = live (closed.Make makers c) in
      let lengths = map maker_length makers in
      let wide = homes ++ starts b lengths in
      let widen = λ (u v : Word) (s : Same homes u v). same_more homes (starts b lengths) u v s in
      let keep = beside_group makers c in
      let taken = map at keep in
      let there = at_group (live c) makers taken at in
      let after = place_code there c in
      let naming = names_placed (live c) makers 0 taken after in
      let fresh = numbered (length cells) makers in
      let m = came p.points out cells s' (all_made (slice_get cells) env fresh makers) (λ cs. makes (near.facing nm (near.Running c (bound_all env (names_of makers) fresh) h)) cs) e in
      let q = all_made_same homes wide cells slots hp widen r env at all fits fresh (Some b) makers (group_new homes cells b makers hp.as_long) makers m.0 (λ x i. among_left x (used_by_makers makers) keep i) m.1 in
      let grown = slots ++ slots_of q.0 in
      let based = with_base r b in
      let hp' = subst (λ ns. Heap (homes ++ starts b ns) (cells ++ m.0) grown) q.3 (heap_group homes cells slots hp m.0 q.0 (subst (λ ns. SameCells (homes ++ starts b ns) m.0 q.0) (sym q.3) q.2)) in
      let env' = bound_all env (names_of makers) fresh in
      let done = names_run p wide after input out (live c) b makers (length cells) 0 grown based env at keep taken (record {
        base = refl;
        fits = fits_grown homes wide slots (slots_of q.0) r based env at keep widen (refl, refl) (fits_fewer homes slots r env at keep all (λ y i. among_right y (used_by_makers makers) keep i) fits);
        cover = λ y i. map_among at y keep i;
        all = λ y i. ⊎_elim (λ (n : IsAmong y (names_of makers)). inl n) (λ (n : IsAmong y (names_of makers) → ⊥). inr (without_all_keeps (names_of makers) y (live c) i n)) (among_or_not y (names_of makers));
        within = λ y i. (without_all_in (names_of makers) y (live c) i).0;
        place = λ j l. group_home homes cells b lengths j hp.as_long (omega (arith, length-map makers maker_length)) ∙ ap Some (omega arith);
      }) (frame_more slots (slots_of q.0) r.frame (spills naming) frame) in
      let to = near_at (near.Running c env' h) input out (cells ++ m.0) in
      some_eq (λ z. GoesTo p 0 z (From (closed.Make makers c))) to s' m.2
      (goes_first (B p) (Quiet p) (λ z y. Related z to y) 0 (suc (waits c)) (From (closed.Make makers c)) (far_at (far.Running naming based) input out grown)
      (comes p.points out slots (all_built slots r (Some b) (map (building_of at makers) makers)) (λ cs. makes (far.facing fm (far.Running naming based)) (slots_of cs)) q.0 q.1) refl
      (record {
        steps = done.steps;
        wait = waits c;
        to = far_at (far.Running after done.registers) input out done.after;
        walk = done.walk;
        moves = inr (omega arith);
        then = running c env' h there done.registers input out wide (cells ++ m.0) done.after
            (heap_kept wide (cells ++ m.0) grown done.after done.on done.back hp') done.fits (subst (Same wide h) (sym done.handler) (widen h r.handler sh))
            (done.frame (spills after) (frame_more slots (slots_of q.0) r.frame (spills after) (frame_fewer slots r.frame (spills after) (spills naming) (names_spills (live c) makers 0 taken after) frame)));
      }))

-- ---- Primitives

module _ (p : closed.Tree) (env : Vars) (h : Word) (at : Places) (r : Registers) (input out homes : List ℕ) (cells : List Cell) (slots : List Slot) (hp : Heap homes cells slots) (sh : Same homes h r.handler) (s' : ClosedState) (x : ℕ) (f : Primitive) (os : List Operand) (c : closed.Code) (fits : Fits homes slots r env at (live (closed.Prim x f os c))) (frame : FrameFits slots r.frame (spills (place_code at (closed.Prim x f os c)))) where
  abbrev There_x : placed.Code
  There_x = place_code (at_one at x (beside x c)) c

  abbrev Spot_x : ℕ
  Spot_x = place_beside at (beside x c)

  abbrev Taking : Bool → placed.Code
  Taking b = cond b (placed.Take (home_of Spot_x) There_x) There_x

  abbrev Then : placed.Code
  Then = Taking (is_in x (live c))

  abbrev Start : PlacedState
  Start = far_at (far.Running (place_code at (closed.Prim x f os c)) r) input out slots

  keeps : Fits homes slots r env at (beside x c)
  keeps = fits_fewer homes slots r env at (beside x c) (live (closed.Prim x f os c)) (λ y i. among_right y (all_used_by os) (beside x c) i) fits

  -- the result is taken, where it lives on
  takes : (told left homes' : List ℕ) (cells' : List Cell) (slots' : List Slot) (u v : Word) → Heap homes' cells' slots' → Same homes' h r.handler → Same homes' u v → Fits homes' slots' (with_result r v) env at (beside x c) → (b : Bool) → is_in x (live c) ≡ b → FrameFits slots' r.frame (spills (Taking b)) → (B p).step Start ≡ Some (far_at (far.Running (Taking b) (with_result r v)) left told slots') → GoesTo p 0 (near_at (near.Running c (bound env x u) h) left told cells') Start
  takes told left homes' cells' slots' u v hp' sh' s g true i fr e =
      let t = far_at (far.Running (placed.Take (home_of Spot_x) There_x) (with_result r v)) left told slots' in
      let to = near_at (near.Running c (bound env x u) h) left told cells' in
      goes_first (B p) (Quiet p) (λ z y. Related z to y) 0 0 Start t e refl
      (binds p env h at left told homes' cells' slots' hp' x c 0 (settled (with_result r v)) u v sh' s (fits_alike homes' slots' (with_result r v) (settled (with_result r v)) env at (beside x c) (refl, refl) g) fr t refl refl)
  takes told left homes' cells' slots' u v hp' sh' s g false i fr e =
      let to = near_at (near.Running c (bound env x u) h) left told cells' in
      goes_one (B p) (Quiet p) (λ z y. Related z to y) 0 (waits c) Start (far_at (far.Running There_x (with_result r v)) left told slots') e refl
      (forgets p env h at left told homes' cells' slots' hp' x c (with_result r v) u sh' (not_among x (live c) i) g fr)

  abbrev nm_x : near.Store
  nm_x = record { cells = cells; input = input }

  abbrev fm_x : far.Store
  fm_x = record { slots = slots; input = input }

  -- where both machines carry out such results
  abbrev Carries : List ℕ → List ℕ → Result → Result → Type 0
  Carries told left q z =
      (B p).step Start ≡ acted (view_slot p.points) out slots (far.carries (place_program p) fm_x Then r told left z) → acted (view_cell p.points) out cells (near.carries p nm_x x c env h told left q) ≡ Some s' → GoesTo p 0 s' Start

  gives_goes : (told left : List ℕ) (u v : Word) → Same homes u v → Carries told left (Gives u) (Gives v)
  gives_goes told left u v s be e =
      some_eq (λ y. GoesTo p 0 y Start) (near_at (near.Running c (bound env x u) h) left (wrote out told) cells) s' e
      (takes (wrote out told) left homes cells slots u v hp sh s (fits_alike homes slots r (with_result r v) env at (beside x c) (refl, refl) keeps) (is_in x (live c)) refl frame be)

  builds_more : (told left : List ℕ) (a b : Growing) (gs hs : List Growing) → SameGrowing homes (suc (length gs)) (a ∷ gs) (b ∷ hs) → Carries told left (Builds (a ∷ gs)) (Builds (b ∷ hs))
  builds_more told left a b gs hs z be e =
      let wide = wider homes (length slots) (a ∷ gs) in
      let widen = λ (u v : Word) (s : Same homes u v). same_more homes (starts (length slots) (map growing_length (a ∷ gs))) u v s in
      let more = laid (length slots) (b ∷ hs) in
      let new = map (grown (λ k. length cells + k)) (a ∷ gs) in
      let u = At (length cells + length gs) in
      let v = At (group_at (length slots) (b ∷ hs) (length hs)) in
      some_eq (λ y. GoesTo p 0 y Start) (near_at (near.Running c (bound env x u) h) left (wrote out told) (cells ++ new)) s' e
      (takes (wrote out told) left wide (cells ++ new) (slots ++ more) u v (heap_built homes cells slots hp (a ∷ gs) (b ∷ hs) z) (widen h r.handler sh) (last_same homes cells slots hp a b gs hs z)
      (fits_grown homes wide slots more r (with_result r v) env at (beside x c) widen (refl, refl) keeps) (is_in x (live c)) refl (frame_more slots more r.frame (spills Then) frame) be)

  builds_goes : (told left : List ℕ) (gs hs : List Growing) {n : ℕ} → SameGrowing homes n gs hs → SameGrowing homes (length gs) gs hs → Carries told left (Builds gs) (Builds hs)
  builds_goes told left gs hs no_growing z be e = absurd (cc)
  builds_goes told left gs hs (more_growing a b gs' hs' q s rest) z be e = builds_more told left a b gs' hs' z be e

  -- what may replace a block may replace it in the arena
  replaces_same : (points : List Point) (old new : Cell) (us : List Word) (w : Word) → SameAll homes old.fields us → may_replace (view_cell points old) (view_cell points (ref_cell w)) ≡ true → (v : Word) → may_replace (view_cell points (record { sort = old.sort; fields = us })) (view_cell points (ref_cell v)) ≡ true
  replaces_same points old new us w s e v =
      ap (λ n. gives_way (sort_kind points old.sort) (view_cell points (ref_cell v)).kind && (suc (extra_words old.sort + n) == 2)) (all_length homes old.fields us s) ∙ e

  sets_goes : (told left : List ℕ) (a w : ℕ) (u v : Word) → slice_get homes a ≡ Some w → Same homes u v → Carries told left (Sets a u) (Sets w v)
  sets_goes told left a w u v q s be e = by (may_replace (view_cell p.points n.cell) (view_cell p.points (ref_cell u))) refl (sym (ap (λ (o : Option Cell). configured next (wrote out told) (replaced (view_cell p.points) cells a (ref_cell u) o)) n.there) ∙ e)
    where
      n : IsAt homes cells slots a w
      n = is_at homes cells slots a w hp q

      next : near.Facing
      next = record { doing = near.Running c (bound env x (Num (pos 0))) h; input = left }

      by : (b : Bool) → may_replace (view_cell p.points n.cell) (view_cell p.points (ref_cell u)) ≡ b → configured next (wrote out told) (cond b (Some (set cells a (ref_cell u))) None) ≡ Some s' → GoesTo p 0 s' Start
      by false m g = absurd (cc)
      by true m g =
          let held = Held (record { sort = n.cell.sort; fields = n.fields }) in
          let right = put_done (view_slot p.points) slots w held (Held (ref_cell v)) n.stands (replaces_same p.points n.cell n.cell n.fields u n.same m v) in
          let zero = Num (pos 0) in
          some_eq (λ y. GoesTo p 0 y Start) (near_at (near.Running c (bound env x zero) h) left (wrote out told) (set cells a (ref_cell u))) s' g
          (takes (wrote out told) left homes (set cells a (ref_cell u)) (set slots w (Held (ref_cell v))) zero zero (heap_set homes cells slots hp a w q u v s) sh (same_num (pos 0))
          (fits_set homes cells slots hp a w q v r (with_result r zero) env at (beside x c) (refl, refl) keeps) (is_in x (live c)) refl
          (frame_set homes cells slots hp a w q v r.frame (spills Then) frame)
          (be ∙ ap (configured (record { doing = far.Running Then (with_result r zero); input = left }) (wrote out told)) right))

  result_goes : (told left : List ℕ) (q z : Result) → SameResult homes q z → Carries told left q z
  result_goes told left q z (gives_same u v s) be e = gives_goes told left u v s be e
  result_goes told left q z (builds_same gs hs s) be e = builds_goes told left gs hs s s be e
  result_goes told left q z (sets_same a w u v i s) be e = sets_goes told left a w u v i s be e
  result_goes told left q z (raises_same u v s) be e =
      finishes p env h at r input out homes cells slots hp sh s' 0 Start (far.throws (place_program p) fm_x v r.handler) (throws_both p input out homes cells slots hp s' u v h r.handler s sh e) be refl

  pub prim_goes : acted (view_cell p.points) out cells (near.runs p nm_x (closed.Prim x f os c) env h) ≡ Some s' → GoesTo p 0 s' Start
  prim_goes e =
      let m = came p.points out cells s' (all_looked (slice_get cells) env [] os) (λ ws. near.primitive p nm_x x f ws c env h) e in
      let a = came p.points out cells s' (answer p.texts (slice_get cells) (length cells) input f m.0) (λ a. near.carries p nm_x x c env h a.told a.input a.result) m.2 in
      let q = all_looked_same homes cells slots hp r env at (live (closed.Prim x f os c)) fits os m.0 (λ y i. among_left y (all_used_by os) (beside x c) i) m.1 in
      let b = answer_same homes cells slots hp p.texts input f m.0 q.0 q.2 a.0 a.1 in
      let carrying = λ (z : Answer). far.carries (place_program p) fm_x Then r z.told z.input z.result in
      result_goes a.0.told a.0.input a.0.result b.0.result b.2.result
      (comes p.points out slots (all_read slots r None (map (source_for at) os)) (λ ws. far.primitive (place_program p) fm_x f ws Then r) q.0 q.1
      ∙ comes p.points out slots (answer p.texts (held_at slots) (length slots) input f q.0) carrying b.0 b.1
      ∙ ap₂ (λ told left. acted (view_slot p.points) out slots (far.carries (place_program p) fm_x Then r told left b.0.result)) b.2.told b.2.input)
      a.2

module _ (p : closed.Tree) (env : Vars) (h : Word) (at : Places) (r : Registers) (input out homes : List ℕ) (cells : List Cell) (slots : List Slot) (hp : Heap homes cells slots) (sh : Same homes h r.handler) (s' : ClosedState) where
  -- any body
  pub run_goes : (c : closed.Code) → Fits homes slots r env at (live c) → FrameFits slots r.frame (spills (place_code at c)) → acted (view_cell p.points) out cells (near.runs p (record { cells = cells; input = input }) c env h) ≡ Some s' → GoesTo p (waits c) s' (far_at (far.Running (place_code at c) r) input out slots)
  run_goes (closed.Make makers c) fits frame e = make_goes p env h at r input out homes cells slots hp sh s' makers c fits frame e
  run_goes (closed.Let x o c) fits frame e = let_goes p env h at r input out homes cells slots hp sh s' x o c fits frame e
  run_goes (closed.Prim x f os c) fits frame e = prim_goes p env h at r input out homes cells slots hp sh s' x f os c fits frame e
  run_goes (closed.Handler x c) fits frame e = handler_goes p env h at r input out homes cells slots hp sh s' x c fits frame e
  run_goes (closed.SetHandler o c) fits frame e = set_goes p env h at r input out homes cells slots hp sh s' o c fits frame e
  run_goes (closed.When o tests same other) fits frame e = when_goes p env h at r input out homes cells slots hp sh s' o tests same other fits frame e
  run_goes (closed.Equal a b t k) fits frame e = equal_goes p env h at r input out homes cells slots hp sh s' a b t k fits frame e
  run_goes (closed.Call t f os) fits frame e = call_goes p env h at r input out homes cells slots hp sh s' t f os fits frame e
  run_goes (closed.Throw o) fits frame e = throw_goes p env h at r input out homes cells slots hp sh s' o fits frame e
  run_goes closed.Halt fits frame e = absurd (cc)
