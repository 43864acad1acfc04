-- Spill records take at most the program's number of words for the first body and for each entry.
use Rattle.std.specs.Prelude.{pos, IfSome, not}
use Rattle.std.proofs.Common.{map, set, ◌≡◌, ℕ, zero, suc, ◌+◌, ◌*◌, ◌≤◌, ◌||◌, ◌&&◌, List, [], ◌∷◌, ◌++◌, length, Option, Some, None, slice_get, cond, Bool, true, false, inl, inr, refl, sym, ap, ap₂, ◌∙◌, subst, arith, length-append}
use Rattle.std.proofs.lemmas.List.{length-replicate}
use Rattle.std.proofs.lemmas.Option.{slice_get_within}
use Rattle.std.proofs.Math.Nat.{mul-suc, mul-zero, mul-add}
use Rattle.smlc_base.specs.declared.point.Point.{Point}
use Rattle.smlc_base.specs.Points.{is_point, is_label}
use Rattle.simulation.specs.Blocks.{IsAmong, Block}
use Rattle.simulation.specs.Runs.{visible, listed, seen}
use Rattle.simulation.specs.Machines.{Machine, state_at, next_of, pass_of}
use Rattle.simulation.specs.Stores.{Effect, Append, Put, Act, Configuration, machine_of, configured, wrote, acted, all_affected}
use Rattle.simulation.proofs.Lists.{some_eq, get_below, get_among}
use Rattle.simulation.proofs.Nth.{point_is_one}
use Rattle.simulation.proofs.Stores.{AllFit, effects_kept}
use Rattle.prim_meaning.specs.Meaning as mean
use Rattle.sml_def.proofs.Options.{bind_some, if_some}
use Rattle.closure_ir.specs.declared.operand.Shape.TheVariants as shape
use Rattle.closure_ir.specs.Words.{Word, Num, At, Fixed, Code as CodeOf, Sort, Made, Cell, cell_length, label_through}
use Rattle.closure_ir.specs.Answers.{Growing, Result, Gives, Builds, Sets, Raises, answer, grown}
use Rattle.closure_ir.specs.Step.{truth_word, chain, pair_in}
use Rattle.closure_ir.specs.Run.{closure_kind, sort_kind}
use Rattle.placed_ir.specs.declared.home.Home.{Home}
use Rattle.placed_ir.specs.declared.home.Home.TheVariants as home
use Rattle.placed_ir.specs.Code.{Code, Frame, Make, Name, Let, Prim, Take, Handler, SetHandler, When, Equal, Call, Throw, Halt, Tree}
use Rattle.placed_ir.specs.Arena.{Slot, Held, Spilled, held_at, words_in, fillers, slots_of, new_frame, view_slot, all_built, Registers, arrived, settled, with_base, with_result, with_frame, with_handler, with_register, past}
use Rattle.placed_ir.specs.Step.{Doing, Running, Arriving, Comparing, Failed, Facing, Store, Goes, spills_word, puts_home, group_at, laid, all_stand, looked, all_looked, calls, enters, label_for, throws, arrives, makes_group, carries, primitive, pends, tells_truth, both_seen, begins, equals, by_verdict, takes_pair, compares, runs, step, seen as seen_by}
use Rattle.placed_ir.specs.Run.{passes, placed_machine, start_placed, placed_run}
use Rattle.place_laws.specs.Place.{greater}
use Rattle.place_laws.specs.Bounds.{spill_words, spilled, path_words, SpillFits}
use Rattle.place_laws.proofs.Places.{greater_left, greater_right}

or_true : (a b : Bool) → b ≡ true → (a || b) ≡ true
or_true true b e = refl
or_true false b e = e

or_left : (a b : Bool) → a ≡ true → (a || b) ≡ true
or_left true b e = refl
or_left false b e = absurd (cc)

among_label : (q : Point) (labels : List Point) → IsAmong q labels → is_label labels q ≡ true
among_label q [] h = absurd h
among_label q (t ∷ ts) (inl e) = or_left (is_point t q) (is_label ts q) (subst (λ z. is_point z q ≡ true) e (point_is_one q))
among_label q (t ∷ ts) (inr h) = or_true (is_point t q) (is_label ts q) (among_label q ts h)

-- ---- What the spill records of an arena take

module _ (points : List Point) where
  abbrev View : Slot → Block
  View = view_slot points

  abbrev S : List Slot → ℕ
  S slots = spilled (map View slots)

  s_append : (xs ys : List Slot) → S (xs ++ ys) ≡ S xs + S ys
  s_append [] ys = omega arith
  s_append (x ∷ xs) ys = let e = s_append xs ys in omega arith

  closure_words : (o : Option Point) (n : ℕ) → spill_words (closure_kind o) n ≡ 0
  closure_words None n = refl
  closure_words (Some q) n = refl

  no_words : (s : Sort) (n : ℕ) → spill_words (sort_kind points s) n ≡ 0
  no_words (Made (shape.Closure l)) n = closure_words (slice_get points l.0) n
  no_words _ n = refl

  s_fillers : (n : ℕ) → S (fillers n) ≡ 0
  s_fillers zero = refl
  s_fillers (suc n) = let e = s_fillers n in omega arith

  s_blocks : (cells : List Cell) → S (slots_of cells) ≡ 0
  s_blocks [] = refl
  s_blocks (c ∷ cells) =
      let a = no_words c.sort (suc (cell_length c)) in
      let b = s_append (fillers (cell_length c)) (slots_of cells) in
      let d = s_fillers (cell_length c) in
      let e = s_blocks cells in
      omega arith

  s_frame : (n : ℕ) → S (new_frame n) ≡ suc n
  s_frame n = let a = s_fillers n in let b = length-replicate n (Num (pos 0)) in omega arith

  s_set : (xs : List Slot) (a : ℕ) (x y : Slot) → slice_get xs a ≡ Some x → (View y).kind ≡ (View x).kind → (View y).words ≡ (View x).words → S (set xs a y) ≡ S xs
  s_set [] a x y e k w = absurd (cc)
  s_set (z ∷ zs) zero x y e k w =
      let g : Some z ≡ Some x = e in
      let q : z ≡ x = cc in
      ap (λ t. t + S zs) (ap₂ spill_words k w ∙ sym (ap (λ t. spill_words (View t).kind (View t).words) q))
  s_set (z ∷ zs) (suc a) x y e k w = ap (λ t. spill_words (View z).kind (View z).words + t) (s_set zs a x y e k w)

  -- effects that make no spill record
  abbrev MakesNone : List Slot → Effect Slot → Type 0
  MakesNone slots (Append ys) = S ys ≡ 0
  MakesNone slots (Put a y) = Unit {0}

  none_made : (xs zs : List Slot) (es : List (Effect Slot)) → AllFit View MakesNone (Some xs) es → all_affected View (Some xs) es ≡ Some zs → S zs ≡ S xs
  none_made xs zs es f e =
      effects_kept View (λ us vs. S vs ≡ S us) (λ us. refl) (λ us vs ws a b. b ∙ a) MakesNone
      (λ us vs k. let q = s_append us vs in omega arith)
      (λ us a x y g r. s_set us a x y g r.same r.words)
      xs zs (Some xs) es (λ ys g. some_eq (λ t. S t ≡ S xs) xs ys g refl) f e

-- what is still due of the body that runs
abbrev due : Doing → ℕ
due (Running c r) = path_words c
due _ = 0

module _ (p : Tree) (fits : SpillFits p) where
  -- the number of passes of a state
  abbrev entering : Doing → ℕ
  entering d = length (listed (visible p.points (passes p.points d)))

  abbrev All : List Slot → List (Effect Slot) → Type 0
  All slots es = AllFit (view_slot p.points) (MakesNone p.points) (Some slots) es

  module _ (slots : List Slot) (input : List ℕ) (e : ℕ) where
    abbrev m : Store
    m = record { slots = slots; input = input }

    -- an act takes no more than was due
    abbrev Fair : Doing → Act Facing Slot → Type 0
    Fair d a = (zs : List Slot) → all_affected (view_slot p.points) (Some slots) a.effects ≡ Some zs → S p.points slots + due d ≤ p.spill * suc e → S p.points zs + due a.next.doing ≤ p.spill * suc (e + entering d)

    abbrev IsFair : Doing → Goes → Type 0
    IsFair d g = IfSome g (Fair d)

    more_passes : (s n : ℕ) → s ≤ p.spill * suc e → s ≤ p.spill * suc (e + n)
    more_passes s n l =
        let k : p.spill * suc (e + n) ≡ p.spill * suc e + p.spill * n = ap (λ t. p.spill * t) (let z : suc (e + n) ≡ suc e + n = omega arith in z) ∙ mul-add p.spill (suc e) n in
        subst (λ t. s ≤ t) (sym k) (omega arith)

    -- it makes none, and no more is due than was
    plainly : (d : Doing) (a : Act Facing Slot) → All slots a.effects → due a.next.doing ≤ due d → Fair d a
    plainly d a f l zs g b =
        let k = none_made p.points slots zs a.effects f g in
        more_passes (S p.points zs + due a.next.doing) (entering d) (omega arith)

    goes_on : (d next : Doing) (left told : List ℕ) (es : List (Effect Slot)) → All slots es → due next ≤ due d → Fair d (record { next = record { doing = next; input = left }; told = told; effects = es })
    goes_on d next left told es f l = plainly d (record { next = record { doing = next; input = left }; told = told; effects = es }) f l

    -- nothing is made, and nothing is due
    idles : (d next : Doing) → due next ≡ 0 → Fair d (record { next = record { doing = next; input = input }; told = []; effects = [] })
    idles d next z = goes_on d next input [] [] tt (omega arith)

    spilling : (d : Doing) (c : Code) (r : Registers) (i : ℕ) (w : Word) (a : ℕ) (ws : List Word) → path_words c ≤ due d → IsFair d (spills_word m c r i w a ws)
    spilling d c r i w a ws l = bind_some (Fair d) (slice_get ws i) _ (λ old q. goes_on d (Running c r) input [] (Put a (Spilled (set ws i w)) ∷ []) ((λ ys j. tt), tt) l)

    home_fair : (d : Doing) (c : Code) (r : Registers) (h : Home) (w : Word) → path_words c ≤ due d → IsFair d (puts_home m c r h w)
    home_fair d c r (home.Register k) w l = goes_on d (Running c (with_register r k w)) input [] [] tt l
    home_fair d c r (home.Spill i) w l =
        bind_some (Fair d) r.frame _ (λ a q. bind_some (Fair d) (words_in (slice_get slots a)) (λ ws. spills_word m c r i w a ws) (λ ws j. spilling d c r i w a ws l))

    called : (d : Doing) (l : Option ℕ) (f : Word) (ws : List Word) (h : Word) → IsFair d (calls p m l f ws h)
    called d None f ws h = tt
    called d (Some l) f ws h = idles d (Arriving l (f ∷ ws) h) refl

    entered : (d : Doing) (f : Word) (ws : List Word) (h : Word) → IsFair d (enters p m f ws h)
    entered d f ws h = called d (label_through (held_at slots) f) f ws h

    thrown : (d : Doing) (x h : Word) → IsFair d (throws p m x h)
    thrown d x (Num n) = idles d (Failed x) refl
    thrown d x (At a) = entered d (At a) (x ∷ []) (At a)
    thrown d x (Fixed s) = entered d (Fixed s) (x ∷ []) (Fixed s)
    thrown d x (CodeOf l) = entered d (CodeOf l) (x ∷ []) (CodeOf l)

    laid_none : (a : ℕ) (gs : List Growing) → All slots (Append (laid a gs) ∷ [])
    laid_none a gs = ((λ ys j. s_blocks p.points (map (grown (group_at a gs)) gs)), tt)

    carried : (d : Doing) (c : Code) (r : Registers) (told left : List ℕ) (result : Result) → path_words c ≤ due d → IsFair d (carries p m c r told left result)
    carried d c r told left (Gives w) l = goes_on d (Running c (with_result r w)) left told [] tt l
    carried d c r told left (Builds []) l = tt
    carried d c r told left (Builds (g ∷ gs)) l =
        goes_on d (Running c (with_result r (At (group_at (length slots) (g ∷ gs) (length gs))))) left told (Append (laid (length slots) (g ∷ gs)) ∷ []) (laid_none (length slots) (g ∷ gs)) l
    carried d c r told left (Sets a w) l =
        goes_on d (Running c (with_result r (Num (pos 0)))) left told (Put a (Held (record { sort = Made shape.Cell; fields = w ∷ [] })) ∷ []) ((λ ys j. tt), tt) l
    carried d c r told left (Raises w) l = thrown d w r.handler

    pended : (d : Doing) (t : Bool) (next : List Word) (k h : Word) (gs : List Growing) → IsFair d (pends p m t next k h gs)
    pended d t next k h [] = idles d (Comparing t next k h) refl
    pended d t next k h (g ∷ gs) =
        goes_on d (Comparing t (At (group_at (length slots) (g ∷ gs) (length gs)) ∷ []) k h) input [] (Append (laid (length slots) (g ∷ gs)) ∷ []) (laid_none (length slots) (g ∷ gs)) (omega arith)

    either : (d : Doing) (b : Bool) (x y : Goes) → IsFair d x → IsFair d y → IsFair d (cond b x y)
    either d true x y f g = f
    either d false x y f g = g

    equal_fair : (d : Doing) (u v : Word) (t : Bool) (k h : Word) → IsFair d (equals p m u v t k h)
    equal_fair d u v t k h =
        either d (both_seen p m u v) (begins p m u v t k h) None
        (either d (mean.is_deep (seen_by p m u) (seen_by p m v)) (pends p m t [] k h (chain ((u, v) ∷ []) [])) (tells_truth p m (mean.decided (mean.compared (seen_by p m u) (seen_by p m v)) t) k h) (pended d t [] k h (chain ((u, v) ∷ []) [])) (entered d k (truth_word (mean.decided (mean.compared (seen_by p m u) (seen_by p m v)) t) ∷ []) h))
        tt

    verdict_fair : (d : Doing) (v : mean.Verdict Word) (next : List Word) (t : Bool) (k h : Word) → IsFair d (by_verdict p m v next t k h)
    verdict_fair d mean.Equal next t k h = idles d (Comparing t next k h) refl
    verdict_fair d mean.Unequal next t k h = entered d k (truth_word (not t) ∷ []) h
    verdict_fair d (mean.AsPairs pairs) next t k h = pended d t next k h (chain pairs next)

    compared_fair : (d : Doing) (ws : List Word) (t : Bool) (k h : Word) → IsFair d (compares p m ws t k h)
    compared_fair d [] t k h = entered d k (truth_word t ∷ []) h
    compared_fair d (At a ∷ ws) t k h =
        bind_some (Fair d) (pair_in (held_at slots a)) (λ q. takes_pair p m q t k h)
        (λ q j. either d (both_seen p m q.0.0 q.0.1) (by_verdict p m (mean.turn (seen_by p m) q.0.0 q.0.1) q.1 t k h) None (verdict_fair d (mean.turn (seen_by p m) q.0.0 q.0.1) q.1 t k h) tt)
    compared_fair d (Num n ∷ ws) t k h = tt
    compared_fair d (Fixed s ∷ ws) t k h = tt
    compared_fair d (CodeOf l ∷ ws) t k h = tt

    choice_due : (b : Bool) (same other : Code) → path_words (cond b same other) ≤ greater (path_words same) (path_words other)
    choice_due true same other = greater_left (path_words same) (path_words other)
    choice_due false same other = greater_right (path_words same) (path_words other)

    same_due : (n : ℕ) → n ≤ n
    same_due n = omega arith

    frame_fair : (n : ℕ) (c : Code) (r : Registers) → IsFair (Running (Frame n c) r) (runs p m (Frame n c) r)
    frame_fair n c r zs i b =
        more_passes (S p.points zs + path_words c) (entering (Running (Frame n c) r))
        (some_eq (λ t. S p.points t + path_words c ≤ p.spill * suc e) (slots ++ new_frame n) zs i (let k = s_append p.points slots (new_frame n) in let f = s_frame p.points n in omega arith))

    run_fair : (c : Code) (r : Registers) → IsFair (Running c r) (runs p m c r)
    run_fair (Frame n c) r = frame_fair n c r
    run_fair (Make bs c) r =
        bind_some (Fair (Running (Make bs c) r)) (all_built slots r (Some (length slots)) bs) _ (λ cells q. goes_on (Running (Make bs c) r) (Running c (with_base r (length slots))) input [] (Append (slots_of cells) ∷ []) ((λ ys j. s_blocks p.points cells), tt) (same_due (path_words c)))
    run_fair (Name h n c) r = bind_some (Fair (Running (Name h n c) r)) (past r.base n) (puts_home m c r h) (λ w q. home_fair (Running (Name h n c) r) c r h w (same_due (path_words c)))
    run_fair (Let h s c) r =
        bind_some (Fair (Running (Let h s c) r)) (looked p m r s) (puts_home m c (settled r) h) (λ w q. home_fair (Running (Let h s c) r) c (settled r) h w (same_due (path_words c)))
    run_fair (Prim f ss c) r =
        bind_some (Fair (Running (Prim f ss c) r)) (all_looked p m r ss) _
        (λ ws q. bind_some (Fair (Running (Prim f ss c) r)) (answer p.texts (held_at slots) (length slots) input f ws) (λ a. carries p m c r a.told a.input a.result) (λ a j. carried (Running (Prim f ss c) r) c r a.told a.input a.result (same_due (path_words c))))
    run_fair (Take h c) r = bind_some (Fair (Running (Take h c) r)) r.result (puts_home m c (settled r) h) (λ w q. home_fair (Running (Take h c) r) c (settled r) h w (same_due (path_words c)))
    run_fair (Handler h c) r = home_fair (Running (Handler h c) r) c (settled r) h r.handler (same_due (path_words c))
    run_fair (SetHandler s c) r = bind_some (Fair (Running (SetHandler s c) r)) (looked p m r s) _ (λ w q. goes_on (Running (SetHandler s c) r) (Running c (with_handler r w)) input [] [] tt (same_due (path_words c)))
    run_fair (When s tests same other) r =
        bind_some (Fair (Running (When s tests same other) r)) (looked p m r s) _
        (λ w q. bind_some (Fair (Running (When s tests same other) r)) (all_stand p.texts slots r w tests) _ (λ b j. goes_on (Running (When s tests same other) r) (Running (cond b same other) (settled r)) input [] [] tt (choice_due b same other)))
    run_fair (Equal a b t k) r =
        bind_some (Fair (Running (Equal a b t k) r)) (looked p m r a) _
        (λ u i. bind_some (Fair (Running (Equal a b t k) r)) (looked p m r b) _ (λ v j. bind_some (Fair (Running (Equal a b t k) r)) (looked p m r k) _ (λ w q. equal_fair (Running (Equal a b t k) r) u v t w r.handler)))
    run_fair (Call t f ss) r =
        bind_some (Fair (Running (Call t f ss) r)) (looked p m r f) _
        (λ w i. bind_some (Fair (Running (Call t f ss) r)) (all_looked p m r ss) _ (λ ws j. called (Running (Call t f ss) r) (label_for p m t w) w ws r.handler))
    run_fair (Throw s) r = bind_some (Fair (Running (Throw s) r)) (looked p m r s) _ (λ w q. thrown (Running (Throw s) r) w r.handler)
    run_fair Halt r = tt

    passes_one : (l : ℕ) (ws : List Word) (h : Word) (q : Point) → slice_get p.points l ≡ Some q → entering (Arriving l ws h) ≡ 1
    passes_one l ws h q g =
        ap (λ (o : Option Point). length (listed (visible p.points o))) g
        ∙ ap (λ b. length (listed (cond b (Some q) None))) (among_label q p.points (get_among p.points l q g))

    one_more : (s w : ℕ) → w ≤ p.spill → s + 0 ≤ p.spill * suc e → s + w ≤ p.spill * suc (e + 1)
    one_more s w l b =
        let k : p.spill * suc (e + 1) ≡ p.spill * suc e + p.spill = ap (λ t. p.spill * suc t) (let z : e + 1 ≡ suc e = omega arith in z) ∙ mul-suc p.spill (suc e) in
        subst (λ t. s + w ≤ t) (sym k) (omega arith)

    arrive_fair : (l : ℕ) (o : Option Code) (ws : List Word) (h : Word) → slice_get p.functions l ≡ o → IsFair (Arriving l ws h) (arrives p m o ws h)
    arrive_fair l None ws h g = tt
    arrive_fair l (Some c) ws h g =
        let below = slice_get_within p.functions l c g in
        let many = fits.as_many in
        let point = get_below p.points l (omega arith) in
        let one = passes_one l ws h point.0 point.1 in
        let most = fits.functions l c g in
        λ zs i b.
        some_eq (λ t. S p.points t + path_words c ≤ p.spill * suc (e + entering (Arriving l ws h))) slots zs i
        (subst (λ t. S p.points slots + path_words c ≤ p.spill * suc (e + t)) (sym one) (one_more (S p.points slots) (path_words c) most b))

    step_fair : (d : Doing) → IsFair d (step p m d)
    step_fair (Running c r) = run_fair c r
    step_fair (Arriving l ws h) = arrive_fair l (slice_get p.functions l) ws h refl
    step_fair (Comparing t ws k h) = compared_fair (Comparing t ws k h) ws t k h
    step_fair (Failed w) = tt

  -- ---- The run

  abbrev M : Machine (Configuration Facing Slot)
  M = machine_of (placed_machine p)

  abbrev InBounds : ℕ → Configuration Facing Slot → Type 0
  InBounds e s = S p.points s.store + due s.control.doing ≤ p.spill * suc e

  stepped : (e : ℕ) (s t : Configuration Facing Slot) → InBounds e s → M.step s ≡ Some t → InBounds (e + entering s.control.doing) t
  stepped e s t b g = by (step p (record { slots = s.store; input = s.control.input }) s.control.doing) (step_fair s.store s.control.input e s.control.doing) g
    where
      done : (a : Act Facing Slot) → Fair s.store s.control.input e s.control.doing a → (o : Option (List Slot)) → all_affected (view_slot p.points) (Some s.store) a.effects ≡ o → configured a.next (wrote s.out a.told) o ≡ Some t → InBounds (e + entering s.control.doing) t
      done a f None q i = absurd (cc)
      done a f (Some zs) q i = some_eq (InBounds (e + entering s.control.doing)) (record { control = a.next; out = wrote s.out a.told; store = zs }) t i (f zs q b)

      by : (o : Goes) → IsFair s.store s.control.input e s.control.doing o → acted (view_slot p.points) s.out s.store o ≡ Some t → InBounds (e + entering s.control.doing) t
      by None f i = absurd (cc)
      by (Some a) f i = done a f (all_affected (view_slot p.points) (Some s.store) a.effects) refl i

  module _ (input : List ℕ) where
    abbrev at_step : ℕ → Configuration Facing Slot
    at_step n = state_at M (start_placed p input) n

    abbrev entries : ℕ → ℕ
    entries n = length (seen p.points (placed_run p input) n)

    on_step : (n : ℕ) → InBounds (entries n) (at_step n) → (o : Option (Configuration Facing Slot)) → M.step (at_step n) ≡ o → InBounds (length (seen p.points (placed_run p input) n ++ listed (visible p.points (pass_of o (M.pass (at_step n)))))) (next_of (at_step n) o)
    on_step n b None e = subst (λ t. InBounds t (at_step n)) (let z : entries n ≡ length (seen p.points (placed_run p input) n ++ []) = omega (arith, length-append (seen p.points (placed_run p input) n) []) in z) b
    on_step n b (Some t) e =
        subst (λ k. InBounds k t) (sym (length-append (seen p.points (placed_run p input) n) (listed (visible p.points (M.pass (at_step n)))))) (stepped (entries n) (at_step n) t b e)

    in_bounds : (n : ℕ) → InBounds (entries n) (at_step n)
    in_bounds zero = let m = fits.main in let k = mul-suc p.spill 0 in let z : p.spill * 0 ≡ 0 = mul-zero p.spill in omega arith
    in_bounds (suc n) = on_step n (in_bounds n) (M.step (at_step n)) refl

    pub spills_within : (n : ℕ) → spilled ((placed_run p input).memory n) ≤ p.spill * suc (length (seen p.points (placed_run p input) n))
    spills_within n = let b = in_bounds n in omega arith
