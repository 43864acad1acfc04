-- The placed program keeps the closed one.
use Rattle.std.specs.Prelude.{pos}
use Rattle.std.proofs.Common.{◌≡◌, ◌≢◌, ℕ, zero, suc, ◌+◌, ◌≤◌, ◌==◌, List, [], ◌∷◌, ◌++◌, map, length, Option, Some, None, slice_get, cond, Bool, true, false, refl, sym, ap, ◌∙◌, subst, arith, ⊎_elim, eqb-true}
use Rattle.smlc_base.specs.declared.point.Point.{Point}
use Rattle.smlc_base.specs.Exceptions.{exn_text}
use Rattle.simulation.specs.Blocks.{IsAmong, Reach, Embeds}
use Rattle.simulation.specs.Runs.{Uncaught, Stuck, visible}
use Rattle.simulation.specs.Keeps.{KeepsTidy, AllNamed, HasTidyReach}
use Rattle.simulation.specs.Machines.{IsLive}
use Rattle.simulation.specs.Stores.{acted}
use Rattle.simulation.proofs.Lists.{some_eq}
use Rattle.simulation.proofs.Machines.{stay, live_ends}
use Rattle.simulation.proofs.Forward.{Ends, now, Shows, Enters, Answer, silent, goes_first, together, IsForward, live_known, forward_keeps}
use Rattle.simulation.proofs.Same.{IsTidyState, tidy_known}
use Rattle.simulation.proofs.Stores.{store_steady}
use Rattle.sml_def.specs.Maybe.{◌>>=◌}
use Rattle.closure_ir.specs.declared.operand.Static.TheVariants as static
use Rattle.closure_ir.specs.declared.operand.Shape.TheVariants as shape
use Rattle.closure_ir.specs.Words.{Word, Num, At, Fixed, Code, Sort, Made, Text, Pair, LastPair, Cell, Vars}
use Rattle.closure_ir.specs.Code as closed
use Rattle.closure_ir.specs.Step as near
use Rattle.closure_ir.specs.Step.{bound, bound_all, unbound}
use Rattle.closure_ir.specs.Run.{ClosedState, view_cell, all_pointed, closed_machine, closed_run, start_closed, name_by, name_of, exn_name, spelling, spelled}
use Rattle.placed_ir.specs.Code as placed
use Rattle.placed_ir.specs.Arena.{Slot, Registers, held_at, home_word, arrived, with_frame, new_frame, view_slot}
use Rattle.placed_ir.specs.Step as far
use Rattle.placed_ir.specs.Run.{PlacedState, placed_machine, placed_run, start_placed}
use Rattle.place_laws.specs.Live.{live}
use Rattle.place_laws.specs.Place.{Places, spills, home_of, at_place, at_params, nowhere, place_plain, place_routine, place_code, place_program, HasFewParams}
use Rattle.place_laws.specs.Lies.{Same, same_num, same_at, same_fixed, same_code, SameAll, none_same, more_same, Heap}
use Rattle.place_laws.proofs.Values.{all_same_pointed, all_pointed_same}
use Rattle.place_laws.proofs.Heap.{heap_kept}
use Rattle.place_laws.proofs.Shown.{index_of, embeds_by, named_shown, tidy_shown, reaches_shown}
use Rattle.place_laws.proofs.Sees.{at_block, name_number_same}
use Rattle.place_laws.proofs.Places.{eq_true, eq_false, eq_or_not, home_register}
use Rattle.place_laws.proofs.Writing.{FrameFits, frame_made, frame_blocks, frame_blocks_back, fits_started}
use Rattle.place_laws.proofs.Relation.{near_at, far_at, A, B, waits, Related, running, starting, arriving, comparing, failed, begins, Quiet}
use Rattle.place_laws.proofs.Comparing.{compares_both}
use Rattle.place_laws.proofs.Steps.{run_goes}

-- ---- Parameters come in registers

params_fit : (homes : List ℕ) (slots : List Slot) (r : Registers) (params : List ℕ) (us vs : List Word) (i : ℕ) (env : Vars) (at : Places) → SameAll homes us vs → length params ≡ length us → i + length params ≤ 20 → ((j : ℕ) (v : Word) → slice_get vs j ≡ Some v → r.file (i + j) ≡ Some v) → ((y : ℕ) (u : Word) → env y ≡ Some u → (v : Word) × (home_word slots r (home_of (at y)) ≡ Some v) × Same homes u v) → (y : ℕ) (u : Word) → bound_all env params us y ≡ Some u → (v : Word) × (home_word slots r (home_of (at_params params i at y)) ≡ Some v) × Same homes u v
params_fit homes slots r [] us vs i env at s l few regs fits y u e = fits y u e
params_fit homes slots r (x ∷ xs) us vs i env at none_same l few regs fits y u e = absurd (omega arith)
params_fit homes slots r (x ∷ xs) us vs i env at (more_same a b aa bb s rest) l few regs fits y u e =
    params_fit homes slots r xs aa bb (suc i) (bound env x a) (at_place at x i) rest (omega arith) (omega arith)
    (λ j v g. ap r.file (let q : suc i + j ≡ i + suc j = omega arith in q) ∙ regs (suc j) v g)
    (λ z t g. ⊎_elim
    (λ (q : z ≡ x).
    let c = eq_true z x q in
    let k : Some a ≡ Some t = sym (ap (λ b. cond b (Some a) (env z)) c) ∙ g in
    let m : a ≡ t = cc in
    let reg : home_word slots r (home_of i) ≡ Some b = ap (home_word slots r) (home_register i (omega arith)) ∙ ap r.file (let n : i ≡ i + 0 = omega arith in n) ∙ regs 0 b refl in
    (b, ap (λ d. home_word slots r (home_of (cond d i (at z)))) c ∙ reg, subst (λ n. Same homes n b) m s))
    (λ (q : z ≢ x).
    let c = eq_false z x q in
    let o = fits z t (sym (ap (λ b. cond b (Some a) (env z)) c) ∙ g) in
    (o.0, ap (λ d. home_word slots r (home_of (cond d i (at z)))) c ∙ o.1, o.2))
    (eq_or_not z x))
    y u e

map_get : {X Y : Type 0} (f : X → Y) (xs : List X) (i : ℕ) (x : X) → slice_get xs i ≡ Some x → slice_get (map f xs) i ≡ Some (f x)
map_get f [] i x e = absurd (cc)
map_get f (y ∷ ys) zero x e = let g : Some y ≡ Some x = e in let k : y ≡ x = cc in ap (λ t. Some (f t)) k
map_get f (y ∷ ys) (suc i) x e = map_get f ys i x e

-- ---- An uncaught packet has the same name

module _ (homes : List ℕ) (cells : List Cell) (slots : List Slot) (h : Heap homes cells slots) where
  name_by_same : (u v : Word) (s : Sort) (us vs : List Word) → Same homes u v → SameAll homes us vs → Same homes (name_by u s us) (name_by v s vs)
  name_by_same u v (Made shape.Packet) us vs s none_same = s
  name_by_same u v (Made shape.Packet) us vs s (more_same a b _ _ t none_same) = s
  name_by_same u v (Made shape.Packet) us vs s (more_same a b _ _ t (more_same c d _ _ r none_same)) = t
  name_by_same u v (Made shape.Packet) us vs s (more_same a b _ _ t (more_same c d _ _ r (more_same i j us' vs' q o))) = s
  name_by_same u v (Made shape.Tuple) us vs s r = s
  name_by_same u v (Made (shape.Applied n)) us vs s r = s
  name_by_same u v (Made shape.Cell) us vs s r = s
  name_by_same u v (Made (shape.ExnName n)) us vs s r = s
  name_by_same u v (Made (shape.ClassRecord k)) us vs s r = s
  name_by_same u v (Made (shape.Closure l)) us vs s r = s
  name_by_same u v (Text bytes) us vs s r = s
  name_by_same u v Pair us vs s r = s
  name_by_same u v LastPair us vs s r = s

  exn_name_same : (u v : Word) → Same homes u v → Same homes (exn_name (slice_get cells) u) (exn_name (held_at slots) v)
  exn_name_same u v (same_num n) = same_num n
  exn_name_same u v (same_fixed s) = same_fixed s
  exn_name_same u v (same_code l) = same_code l
  exn_name_same u v (same_at a w e) =
      at_block homes cells slots h (λ o q. Same homes (name_of (At a) o) (name_of (At w) q)) a w e (λ s us vs r. name_by_same (At a) (At w) s us vs (same_at a w e) r)

  spelling_same : (exns : List (List ℕ)) (u v : Word) → Same homes u v → spelling exns (held_at slots) v ≡ spelling exns (slice_get cells) u
  spelling_same exns u v (same_num n) = refl
  spelling_same exns u v (same_at a w e) = ap (spelled exns) (name_number_same homes cells slots h a w e)
  spelling_same exns u v (same_fixed (static.Function l)) = refl
  spelling_same exns u v (same_fixed (static.Text t)) = refl
  spelling_same exns u v (same_fixed (static.Library x)) = refl
  spelling_same exns u v (same_code l) = refl

  name_same : (exns : List (List ℕ)) (u v : Word) → Same homes u v → spelling exns (held_at slots) (exn_name (held_at slots) v) ≡ spelling exns (slice_get cells) (exn_name (slice_get cells) u)
  name_same exns u v s = spelling_same exns (exn_name (slice_get cells) u) (exn_name (held_at slots) v) (exn_name_same u v s)

-- ---- The simulation

module _ (p : closed.Tree) (few : HasFewParams p) where
  record Known (s : ClosedState) : Type 0 where
    live : IsLive (A p) s
    tidy : IsTidyState (A p) p.points s

  shows_heap : (c : near.Doing) (d : far.Doing) (input out homes : List ℕ) (cells : List Cell) (slots : List Slot) → Heap homes cells slots → AllNamed (map (view_cell p.points) cells) → Shows (A p) (B p) (near_at c input out cells) (far_at d input out slots)
  shows_heap c d input out homes cells slots h n = record {
    out = refl;
    made = (index_of homes, embeds_by p.points homes cells slots h (λ a. Unit {0}) (λ a. Unit {0}) (λ a w e f. tt));
    named = named_shown p.points homes cells slots h n;
  }

  shows : (w : ℕ) (s : ClosedState) (t : PlacedState) → Known s → Related w s t → Shows (A p) (B p) s t
  shows w s t k (running c env h at r input out homes cells slots hp f sh fr) = shows_heap (near.Running c env h) (far.Running (place_code at c) r) input out homes cells slots hp k.tidy.named
  shows w s t k (starting n c env h at r input out homes cells slots hp f sh nf e) = shows_heap (near.Running c env h) (far.Running (placed.Frame (suc n) (place_code at c)) r) input out homes cells slots hp k.tidy.named
  shows w s t k (arriving l us vs h g input out homes cells slots hp su sh) = shows_heap (near.Arriving l us h) (far.Arriving l vs g) input out homes cells slots hp k.tidy.named
  shows w s t k (comparing b us vs x y h g input out homes cells slots hp su sx sh) = shows_heap (near.Comparing b us x h) (far.Comparing b vs y g) input out homes cells slots hp k.tidy.named
  shows w s t k (failed u v input out homes cells slots hp su) = shows_heap (near.Failed u) (far.Failed v) input out homes cells slots hp k.tidy.named

  abbrev EndsSo : ClosedState → PlacedState → Type 0
  EndsSo s t = Ends (A p) (B p) (Quiet p) s t

  -- a state of the closed machine that has neither a step nor an end isn't known
  ends_by : (s : ClosedState) (t : PlacedState) → Known s → (A p).step s ≡ None → (A p).end s ≡ Stuck → EndsSo s t
  ends_by s t k e f = absurd (live_ends (A p) s k.live e f)

  ended_code : (c : closed.Code) (env : Vars) (h : Word) (input out : List ℕ) (cells : List Cell) (t : PlacedState) → Known (near_at (near.Running c env h) input out cells) → (A p).step (near_at (near.Running c env h) input out cells) ≡ None → (c ≡ closed.Halt → EndsSo (near_at (near.Running c env h) input out cells) t) → EndsSo (near_at (near.Running c env h) input out cells) t
  ended_code (closed.Make makers c) env h input out cells t k e f = ends_by (near_at (near.Running (closed.Make makers c) env h) input out cells) t k e refl
  ended_code (closed.Let x o c) env h input out cells t k e f = ends_by (near_at (near.Running (closed.Let x o c) env h) input out cells) t k e refl
  ended_code (closed.Prim x g os c) env h input out cells t k e f = ends_by (near_at (near.Running (closed.Prim x g os c) env h) input out cells) t k e refl
  ended_code (closed.Handler x c) env h input out cells t k e f = ends_by (near_at (near.Running (closed.Handler x c) env h) input out cells) t k e refl
  ended_code (closed.SetHandler o c) env h input out cells t k e f = ends_by (near_at (near.Running (closed.SetHandler o c) env h) input out cells) t k e refl
  ended_code (closed.When o tests same other) env h input out cells t k e f = ends_by (near_at (near.Running (closed.When o tests same other) env h) input out cells) t k e refl
  ended_code (closed.Equal a b q z) env h input out cells t k e f = ends_by (near_at (near.Running (closed.Equal a b q z) env h) input out cells) t k e refl
  ended_code (closed.Call g o os) env h input out cells t k e f = ends_by (near_at (near.Running (closed.Call g o os) env h) input out cells) t k e refl
  ended_code (closed.Throw o) env h input out cells t k e f = ends_by (near_at (near.Running (closed.Throw o) env h) input out cells) t k e refl
  ended_code closed.Halt env h input out cells t k e f = f refl

  halts : (c : closed.Code) (env : Vars) (h : Word) (at : Places) (r : Registers) (input out : List ℕ) (cells : List Cell) (slots : List Slot) → c ≡ closed.Halt → EndsSo (near_at (near.Running c env h) input out cells) (far_at (far.Running (place_code at c) r) input out slots)
  halts c env h at r input out cells slots q =
      subst (λ b. EndsSo (near_at (near.Running b env h) input out cells) (far_at (far.Running (place_code at b) r) input out slots)) (sym q) (now refl refl)

  ended : (w : ℕ) (s : ClosedState) (t : PlacedState) → Known s → Related w s t → (A p).step s ≡ None → EndsSo s t
  ended w s t k (running c env h at r input out homes cells slots hp f sh fr) e = ended_code c env h input out cells t k e (halts c env h at r input out cells slots)
  ended w s t k (starting n c env h at r input out homes cells slots hp f sh nf g) e =
      ended_code c env h input out cells t k e (λ q. absurd (let z : 0 ≡ suc n = sym (ap (λ b. spills (place_code at b)) q) ∙ g in omega arith))
  ended w s t k (arriving l us vs h g input out homes cells slots hp su sh) e = ends_by s t k e refl
  ended w s t k (comparing b us vs x y h g input out homes cells slots hp su sx sh) e = ends_by s t k e refl
  ended w s t k (failed u v input out homes cells slots hp su) e = now refl (ap Uncaught (name_same homes cells slots hp p.exns u v su))

  -- what is reached at an entry is reached in the arena
  enters : (us vs : List Word) (c : near.Doing) (d : far.Doing) (input out homes : List ℕ) (cells : List Cell) (slots : List Slot) → (A p).roots (near_at c input out cells) ≡ all_pointed us → (B p).roots (far_at d input out slots) ≡ all_pointed vs → Heap homes cells slots → SameAll homes us vs → HasTidyReach (map (view_cell p.points) cells) ((A p).roots (near_at c input out cells)) → Enters (A p) (B p) (near_at c input out cells) (far_at d input out slots)
  enters us vs c d input out homes cells slots ra rb hp same tidy =
      let back = λ (w : ℕ) (m : IsAmong w (all_pointed vs)). all_same_pointed homes us vs same w m in
      let on = λ (a : ℕ) (m : IsAmong a (all_pointed us)). all_pointed_same homes us vs same a m in
      record {
        reaches = (
          index_of homes,
          subst (λ rl. Embeds (map (view_slot p.points) slots) (Reach (map (view_slot p.points) slots) ((B p).roots (far_at d input out slots))) (map (view_cell p.points) cells) (Reach (map (view_cell p.points) cells) rl) (index_of homes)) (sym ra)
              (subst (λ rs. Embeds (map (view_slot p.points) slots) (Reach (map (view_slot p.points) slots) rs) (map (view_cell p.points) cells) (Reach (map (view_cell p.points) cells) (all_pointed us)) (index_of homes)) (sym rb)
              (reaches_shown p.points homes cells slots hp (all_pointed vs) (all_pointed us) back)),
        );
        tidy = subst (HasTidyReach (map (view_slot p.points) slots)) (sym rb)
            (tidy_shown p.points homes cells slots hp (all_pointed vs) (all_pointed us) back on (subst (HasTidyReach (map (view_cell p.points) cells)) ra tidy));
      }

  arrives : (l : ℕ) (us vs : List Word) (h k : Word) (input out homes : List ℕ) (cells : List Cell) (slots : List Slot) (s' : ClosedState) → Known (near_at (near.Arriving l us h) input out cells) → Heap homes cells slots → SameAll homes us vs → Same homes h k → (A p).step (near_at (near.Arriving l us h) input out cells) ≡ Some s' → Answer false (A p) (B p) p.points (Quiet p) (λ v u. Related v s' u) 0 (near_at (near.Arriving l us h) input out cells) (far_at (far.Arriving l vs k) input out slots)
  arrives l us vs h k input out homes cells slots s' kn hp su sh e = by (slice_get p.functions l) refl e
    where
      nm : near.Store
      nm = record { cells = cells; input = input }

      with_code : (f : closed.Routine) → slice_get p.functions l ≡ Some f → (b : Bool) → (length f.params == length us) ≡ b → acted (view_cell p.points) out cells (cond b (near.on nm (near.Running f.code (bound_all unbound f.params us) h)) None) ≡ Some s' → Answer false (A p) (B p) p.points (Quiet p) (λ v u. Related v s' u) 0 (near_at (near.Arriving l us h) input out cells) (far_at (far.Arriving l vs k) input out slots)
      with_code f fe false le g = absurd (cc)
      with_code f fe true le g =
          let to = near_at (near.Running f.code (bound_all unbound f.params us) h) input out cells in
          let next = far_at (far.Running (place_routine f) (arrived vs k)) input out slots in
          let at = at_params f.params 0 nowhere in
          let fits = params_fit homes slots (arrived vs k) f.params us vs 0 unbound nowhere su (eqb-true (length f.params) (length us) le) (let m = few l f fe in omega arith) (λ j v i. ap (slice_get vs) (let z : 0 + j ≡ j = omega arith in z) ∙ i) (λ y u i. absurd (cc)) in
          some_eq (λ z. Answer false (A p) (B p) p.points (Quiet p) (λ v u. Related v z u) 0 (near_at (near.Arriving l us h) input out cells) (far_at (far.Arriving l vs k) input out slots)) to s' g
          (together (record {
            next = next;
            passes = refl;
            step = ap (λ (z : Option placed.Code). acted (view_slot p.points) out slots (z >>= (λ c. far.on (record { slots = slots; input = input }) (far.Running c (arrived vs k))))) (map_get place_routine p.functions l f fe);
            steady = store_steady (placed_machine (place_program p)) (far_at (far.Arriving l vs k) input out slots);
            enters = λ q v. enters (h ∷ us) (k ∷ vs) (near.Arriving l us h) (far.Arriving l vs k) input out homes cells slots refl refl hp (more_same h k us vs sh su) (kn.tidy.reach s' q e v);
            on = record {
              steps = 0;
              wait = waits f.code;
              to = next;
              walk = stay next;
              then = begins (spills (place_plain f)) f.code (bound_all unbound f.params us) h at (arrived vs k) input out homes cells slots hp (λ y m. fits y) sh refl refl;
            };
          }))

      by : (o : Option closed.Routine) → slice_get p.functions l ≡ o → acted (view_cell p.points) out cells (near.arrives p nm o us h) ≡ Some s' → Answer false (A p) (B p) p.points (Quiet p) (λ v u. Related v s' u) 0 (near_at (near.Arriving l us h) input out cells) (far_at (far.Arriving l vs k) input out slots)
      by None f g = absurd (cc)
      by (Some f) fe g = with_code f fe (length f.params == length us) refl g

  step : (w : ℕ) (s s' : ClosedState) (t : PlacedState) → Known s → Related w s t → (A p).step s ≡ Some s' → Answer false (A p) (B p) p.points (Quiet p) (λ v u. Related v s' u) w s t
  step w s s' t k (running c env h at r input out homes cells slots hp f sh fr) e = silent refl (run_goes p env h at r input out homes cells slots hp sh s' c f fr e)
  step w s s' t k (starting n c env h at r input out homes cells slots hp f sh nf g) e =
      let more = slots ++ new_frame (suc n) in
      let r' = with_frame r (length slots) in
      let hp' = heap_kept homes cells slots more (frame_blocks slots (suc n)) (frame_blocks_back slots (suc n)) hp in
      silent refl (goes_first (B p) (Quiet p) (λ v u. Related v s' u) w (waits c) t (far_at (far.Running (place_code at c) r') input out more) refl refl
      (run_goes p env h at r' input out homes cells more hp' sh s' c (fits_started homes slots (new_frame (suc n)) r (length slots) env at (live c) nf f) (subst (FrameFits more (Some (length slots))) (sym g) (frame_made slots (suc n))) e))
  step w s s' t k (arriving l us vs h g input out homes cells slots hp su sh) e = arrives l us vs h g input out homes cells slots s' k hp su sh e
  step w s s' t k (comparing b us vs x y h g input out homes cells slots hp su sx sh) e =
      let c = compares_both p input out homes cells slots hp s' us vs b x y h g su sx sh e in
      together (record {
        next = c.next;
        passes = refl;
        step = c.done;
        steady = store_steady (placed_machine (place_program p)) t;
        enters = λ q v. enters (h ∷ x ∷ us) (g ∷ y ∷ vs) (near.Comparing b us x h) (far.Comparing b vs y g) input out homes cells slots refl refl hp (more_same h g (x ∷ us) (y ∷ vs) sh (more_same x y us vs sx su)) (k.tidy.reach s' q e v);
        on = record { steps = 0; wait = 0; to = c.next; walk = stay c.next; then = c.then };
      })
  step w s s' t k (failed u v input out homes cells slots hp su) e = absurd (cc)

  forward : IsForward false (A p) (B p) p.points Known (Quiet p) Related
  forward = record { calm = λ t q. (q, store_steady (placed_machine (place_program p)) t); shows = shows; ended = ended; step = step }

  empty : Heap [] [] []
  empty = record { cell = λ a c e. absurd (cc); only = λ w d e. absurd (cc); rising = λ a b w v l e f. absurd (cc); as_long = refl }

  module _ (input : List ℕ) (named : (n : ℕ) → AllNamed ((closed_run p input).memory n)) where
    pub placed_keeps : KeepsTidy false (closed_run p input) (placed_run (place_program p) input)
    placed_keeps sound tidy =
        let start = start_closed p input in
        forward_keeps false (A p) (B p) p.points p.points start (start_placed (place_program p) input) Known (Quiet p) Related
        (λ s n. record { live = live_known (A p) p.points start s n; tidy = tidy_known (A p) p.points p.points start (λ q e. e) named tidy n }) forward (store_steady (closed_machine p)) (λ q e. e) sound.once (waits p.main)
        (begins (spills (place_code nowhere p.main)) p.main unbound (Num (pos 0)) nowhere (arrived [] (Num (pos 0))) input [] [] [] [] empty (λ x m u e. absurd (cc)) (same_num (pos 0)) refl refl) sound
