-- A round's loop, from its beginning to its end.
use Rattle.std.proofs.Common.{◌≡◌, ◌≢◌, ℕ, zero, suc, ◌+◌, ◌≤◌, ◌<◌, List, [], ◌∷◌, ◌++◌, length, Bool, true, false, cond, Option, Some, None, inl, inr, slice_get, nat_eq, refl, sym, ap, ◌∙◌, subst, arith, eqb-true, ne_eqb}
use Rattle.std.specs.Prelude.{get_or}
use Rattle.std.specs.List.{AllByRecursion}
use Rattle.simulation.specs.Blocks.{IsAmong}
use Rattle.simulation.proofs.Lists.{some_eq}
use Rattle.cps_ir.specs.declared.atom.Atom.TheVariants as atom
use Rattle.cps_ir.specs.declared.body.Body.{Body}
use Rattle.cps_ir.specs.declared.body.End.TheVariants as end
use Rattle.cps_ir.specs.Code.{Code, Halt}
use Rattle.cps_ir.specs.Free.{bound}
use Rattle.cps_ir.specs.Kept.{IsProgram}
use Rattle.cps_ir.specs.Program.{Cps, code_at, code_within, code_of_binds, code_of_end, code_of_body}
use Rattle.cps_free.proofs.Unfold.{code_unfold}
use Rattle.contract_laws.specs.Contract.{nothing}
use Rattle.contract_laws.specs.Redex.{uses, nodes, uses_atom}
use Rattle.contract_laws.specs.Weigh.{weigh, names_weigh, of_name}
use Rattle.contract_laws.proofs.Free.{In}
use Rattle.contract_round.specs.Round.{outset, round, walk}
use Rattle.contract_round.proofs.Facts.{own}
use Rattle.contract_round.proofs.Counts.{bound_weigh, distinct_weighs}
use Rattle.contract_frame.specs.Apart.{SameBody}
use Rattle.contract_frame.proofs.Frame.{same_walk}
use Rattle.contract_census.specs.declared.counts.Count.{Count}
use Rattle.contract_census.specs.Counted.{IsCensus}
use Rattle.contract_known.specs.Known.{place_of, made_in, made_at}
use Rattle.contract_rows.specs.Rows.{empty}
use Rattle.contract_rows.proofs.Grown.{begun}
use Rattle.contract_binds.specs.Law.{no_variable}
use Rattle.contract_group.specs.declared.task.Placed.{Placed}
use Rattle.contract_group.specs.declared.task.Task.{Task}
use Rattle.contract_steps.specs.State.{State}
use Rattle.contract_steps.specs.Steps.{task_from, FoundStep, TaskStep}
use Rattle.contract_holds.specs.Open.{occurs, occurs_in, binds_in, inner, work_sum, placed_sum, all_binds, all_occurs, all_nodes}
use Rattle.contract_holds.specs.Holds.{Holds}
use Rattle.contract_holds.specs.Fits.{body_in, scope_in, binds_of, slots_of, AreOpen, TasksFit}
use Rattle.contract_holds.specs.Turn.{Ready, Stands, Stops}
use Rattle.contract_holds.specs.Law.{with_work, IsBegun, Follows, RoundBegins, RoundGoesOn, RoundEnds}
use Rattle.contract_holds.proofs.Sums.{work_append}
use Rattle.contract_holds.proofs.Occurs.{occurs_free}
use Rattle.contract_holds.proofs.Still.{places_none, blocks_none, unmet_none}
use Rattle.contract_holds.proofs.Filled.{all_both}
use Rattle.contract_holds.proofs.Narrow.{Less, same_tables}
use Rattle.contract_holds.proofs.Filled.{slot_here, slot_apart, old_end}
use Rattle.contract_holds.proofs.Stop.{all_front, all_back, slots_append, turned_back}
use Rattle.contract_holds.proofs.Turns.{body_stops}

-- ---- A task

-- a body that isn't there is nothing
code_none : (k : ℕ) (source : List Body) (i : ℕ) → slice_get source i ≡ None → code_within k source i ≡ Halt
code_none zero source i e = refl
code_none (suc k) source i e = ap (code_of_body (code_within k source)) e

module _ (texts : List (List ℕ)) (source : List Body) (counts : List Count) (t : Task) (s : State) (r : Ready texts source counts t Halt s) where
  nothing_stops : Stops texts source counts t Halt s s
  nothing_stops =
      let hold = r.holds in
      let free = r.slots in
      let old = get_or s.bodies t.slot empty in
      record {
        stands = record {
          holds = hold;
          slots = record { tree = free.tree; distinct = free.distinct.1; below = free.below.1; ends = λ i b a e. free.ends i b (inr a) e };
          roots = r.roots;
        };
        fits = λ P f d. record {
          here = sym (ap (λ e. code_of_binds P (binds_of s.bodies t.slot) (code_of_end P e)) (old_end t.slot (slots_of s.work) s.bodies free)) ∙ d t.slot old (slot_here t.slot (slots_of s.work) s.bodies free) (λ a. slot_apart t.slot (slots_of s.work) s.bodies free t.slot a refl);
          tasks = f;
          done = λ i b e away. d i b e (λ a. away (inr a));
        };
        less = omega arith;
      }

module _ (q : Cps) (counts : List Count) (s n : State) (work : List Task) (t : Task) (p : IsProgram q) (f : Follows q counts s) (last : s.work ≡ work ++ t ∷ []) where
  abbrev source : List Body
  source = q.bodies

  abbrev c : Code
  c = code_at source t.body

  abbrev now : State
  now = with_work s work

  abbrev stand : Stands q.texts source counts s
  stand = f.stands

  sums : (m : Code → ℕ) → work_sum source m s.work ≡ work_sum source m work + m c
  sums m = let a = ap (work_sum source m) last in let b = work_append source m work (t ∷ []) in omega arith

  now_less : Less source counts Halt s stand.holds c now
  now_less = record {
    binds = λ x. let k = sums (λ d. weigh (of_name x) d) in omega arith;
    occurs = λ x b. let k = sums (λ d. occurs x d) in omega arith;
    uses = λ x. let k = sums (λ d. uses x d) in omega arith;
    inner = λ x. let k = sums (λ d. inner x d) in omega arith;
  }

  now_ready : Ready q.texts source counts t c now
  now_ready =
      let hold = stand.holds in
      let all = subst (λ w. AllByRecursion (λ u. IsCensus counts (code_at source u.body)) w) last hold.counted_work in
      let counted = all_back (λ u. IsCensus counts (code_at source u.body)) work (t ∷ []) all in
      let roots = subst (λ w. AllByRecursion (λ u. u.root < length s.bodies) w) last stand.roots in
      let here = all_back (λ u. u.root < length s.bodies) work (t ∷ []) roots in
      record {
        holds = same_tables source counts Halt s hold c now now_less refl refl refl (omega arith) counted.0 (all_front (λ u. IsCensus counts (code_at source u.body)) work (t ∷ []) all);
        slots = turned_back t.slot (slots_of work) s.bodies (subst (λ w. AreOpen w s.bodies) (ap slots_of last ∙ slots_append work (t ∷ [])) stand.slots);
        root = here.0;
        roots = all_front (λ u. u.root < length s.bodies) work (t ∷ []) roots;
      }

  found_stops : (o : Option Body) → slice_get source t.body ≡ o → FoundStep q.texts source counts t o now n → Stops q.texts source counts t c now n
  found_stops None e h =
      let is : c ≡ Halt = code_none (length source) source t.body e in
      subst (λ m. Stops q.texts source counts t c now m) (sym h) (subst (λ d. Stops q.texts source counts t d now now) (sym is) (nothing_stops q.texts source counts t now (subst (λ d. Ready q.texts source counts t d now) is now_ready)))
  found_stops (Some b) e h =
      let is : c ≡ code_of_body (code_at source) (Some b) = code_unfold source p.numbered t.body b e in
      subst (λ d. Stops q.texts source counts t d now n) (sym is) (body_stops q.texts source counts t b.binds b.end now h.0 n (subst (λ d. Ready q.texts source counts t d now) is now_ready) h.1 h.2)

  task_follows : TaskStep q.texts source counts t now n → Follows q counts n × (all_nodes source Halt n < all_nodes source Halt s)
  task_follows h =
      let k = found_stops (slice_get source t.body) refl h in (
        record {
          stands = k.stands;
          fits = λ P tasks done. let g = k.fits P tasks done in f.fits P
              (subst (λ w. TasksFit q.texts source P s w) (sym last) (all_both _ work (t ∷ []) g.tasks (g.here, tt)))
              (λ i b e away. g.done i b e (λ a. away (subst (λ w. IsAmong i w) (sym (ap slots_of last ∙ slots_append work (t ∷ []))) (put_last i a))));
        },
        let l = k.less in let a = sums (λ d. nodes d) in omega arith,
      )
    where
      put_last : (i : ℕ) → IsAmong i (t.slot ∷ slots_of work) → IsAmong i (slots_of work ++ slots_of (t ∷ []))
      put_last i (inl e) = right (slots_of work) i e
        where
          right : (xs : List ℕ) (i : ℕ) → i ≡ t.slot → IsAmong i (xs ++ t.slot ∷ [])
          right [] i e = inl e
          right (x ∷ xs) i e = inr (right xs i e)
      put_last i (inr a) = left (slots_of work) i a
        where
          left : (xs : List ℕ) (i : ℕ) → IsAmong i xs → IsAmong i (xs ++ t.slot ∷ [])
          left [] i a = absurd a
          left (x ∷ xs) i (inl e) = inl e
          left (x ∷ xs) i (inr a) = inr (left xs i a)

pub goes_on : RoundGoesOn
goes_on q counts s n work t p f last h = task_follows q counts s n work t p f last h

-- ---- The beginning

no_placed : (source : List Body) (m : List ℕ → Code → ℕ) (table : List (Option Placed)) → ((x : ℕ) → get_or table x None ≡ None) → placed_sum source m table ≡ 0
no_placed source m [] h = refl
no_placed source m (None ∷ table) h = no_placed source m table (λ x. h (suc x))
no_placed source m (Some p ∷ table) h = let e = h 0 in absurd (cc)

below_bound : (v x : ℕ) (xs : List ℕ) → AllByRecursion (λ y. y < v) xs → 1 ≤ names_weigh (of_name x) xs → x < v
below_bound v x [] a l = absurd (omega arith)
below_bound v x (y ∷ xs) a l = by (nat_eq x y) refl (below_bound v x xs a.1)
  where
    by : (b : Bool) → nat_eq x y ≡ b → (1 ≤ names_weigh (of_name x) xs → x < v) → x < v
    by true e f = let k = eqb-true x y e in let w = a.0 in omega arith
    by false e f = let o : own x y ≡ 0 = ap (λ t. cond t 1 0) e in f (omega arith)

other_uses : (x y : ℕ) → y ≢ x → uses_atom x (atom.Var y) ≡ 0
other_uses x y e = ap (λ b. cond b 1 0) (ne_eqb x y (λ q. e (sym q)))

module _ (q : Cps) (counts : List Count) (s : State) (p : IsProgram q) (k : IsCensus counts (code_at q.bodies 0)) (b : IsBegun q.variables s) where
  abbrev whole : Code
  whole = code_at q.bodies 0

  work_is : (m : Code → ℕ) → work_sum q.bodies m s.work ≡ m whole
  work_is m = let e = ap (work_sum q.bodies m) b.work in omega arith

  binds_are : (x : ℕ) → all_binds q.bodies Halt s x ≡ names_weigh (of_name x) (bound whole)
  binds_are x = let w = work_is (λ d. weigh (of_name x) d) in let n = no_placed q.bodies (binds_in x) s.placed b.placed in let e = bound_weigh x whole in omega arith

  no_free : (x : ℕ) → 1 ≤ all_occurs q.bodies Halt s x → ⊥
  no_free x l =
      let w = work_is (λ d. occurs x d) in
      let n = no_placed q.bodies (occurs_in x) s.placed b.placed in
      let i = occurs_free x whole (omega arith) in
      let j : In x [] = subst (λ xs. In x xs) p.closed i in
      cc

  begin_holds : Holds q.bodies counts Halt s
  begin_holds = record {
    once = λ x. let e = binds_are x in let d = distinct_weighs (bound whole) p.once x in omega arith;
    closed = λ x l. absurd (no_free x l);
    single = λ f c e. let z = sym (b.placed f) ∙ e in absurd (cc);
    outer = λ f c e. let z = sym (b.placed f) ∙ e in absurd (cc);
    fresh = λ x l. let e = binds_are x in let v = below_bound q.variables x (bound whole) p.below (omega arith) in record {
      has_place = let g = b.places_length in omega arith;
      has_block = let g = b.blocks_length in omega arith;
      has_body = let g = b.placed_length in omega arith;
      place = b.places x;
      block = b.blocks x;
      body = b.placed x;
    };
    places = λ x y l e. ap (uses_atom x) (b.places y) ∙ other_uses x y e;
    blocks = λ x y c l e. let z = sym (b.blocks y) ∙ e in absurd (cc);
    roots = λ y c e. let z = sym (b.blocks y) ∙ e in absurd (cc);
    counted = λ x. tt;
    counted_work = subst (λ w. AllByRecursion (λ t. IsCensus counts (code_at q.bodies t.body)) w) (sym b.work) (k, tt);
    counted_placed = λ f c e. let z = sym (b.placed f) ∙ e in absurd (cc);
  }

  first_walk : walk q.texts (scope_in q.texts q.bodies s 0) whole ≡ round q.texts whole
  first_walk = same_walk no_variable no_variable (λ y e. e) q.texts whole (scope_in q.texts q.bodies s 0) outset (unmet_none _) (unmet_none _)
      (record {
        places = places_none (place_of s.places) atom.Var b.places;
        blocks = blocks_none (made_at s.blocks 0) nothing (λ y. ap (made_in 0) (b.blocks y));
        bodies = λ f d. subst (λ o. SameBody no_variable o None) (sym (ap (body_in q.texts q.bodies s.places) (b.placed f))) tt;
      })

  begin_open : AreOpen (0 ∷ []) (empty ∷ [])
  begin_open = record { tree = begun; distinct = (refl, tt); below = (omega arith, tt); ends = ends }
    where
      ends : (i : ℕ) (c : Body) → IsAmong i (0 ∷ []) → slice_get (empty ∷ []) i ≡ Some c → c.end ≡ end.Halt
      ends zero c a e = some_eq (λ d. d.end ≡ end.Halt) empty c e refl
      ends (suc i) c a e = absurd (cc)

  begin_follows : Follows q counts s
  begin_follows = record {
    stands = record {
      holds = begin_holds;
      slots = subst (λ w. AreOpen (slots_of w) s.bodies) (sym b.work) (subst (λ bs. AreOpen (0 ∷ []) bs) (sym b.bodies) begin_open);
      roots = subst (λ w. AllByRecursion (λ u. u.root < length s.bodies) w) (sym b.work) (subst (λ bs. AllByRecursion (λ u. u.root < length bs) (task_from 0 0 0 ∷ [])) (sym b.bodies) (omega arith, tt));
    };
    fits = λ P f d.
        let one = subst (λ w. TasksFit q.texts q.bodies P s w) b.work f in
        sym first_walk ∙ ap (λ bs. code_of_binds P (binds_of bs 0) (walk q.texts (scope_in q.texts q.bodies s 0) whole)) (sym b.bodies) ∙ one.0;
  }

pub begins : RoundBegins
begins q counts s p k b = begin_follows q counts s p k b

-- ---- The end

pub ends : RoundEnds
ends q counts s f none =
    let stand = f.stands in
    let free = stand.slots in
    let tree = free.tree in
    let P = code_at s.bodies in
    (tree, sym (f.fits P (subst (λ w. TasksFit q.texts q.bodies P s w) (sym none) tt) (λ i b e away. sym (code_unfold s.bodies tree.numbered i b e))))
