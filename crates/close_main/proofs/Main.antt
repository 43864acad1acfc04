-- A slim program is closed.
use Rattle.std.proofs.Common.{◌≡◌, ℕ, suc, ◌+◌, ◌<◌, ◌≤◌, Bool, true, false, cond, List, [], ◌∷◌, ◌++◌, Option, Some, None, map, length, replicate, inl, inr, refl, sym, ap, ◌∙◌, subst, arith, nat_eq}
use Rattle.std.proofs.lemmas.Bool.{eqb-true}
use Rattle.simulation.specs.Blocks.{IsAmong}
use Rattle.cps_ir.specs.declared.body.Function.{Function as Entry}
use Rattle.cps_ir.specs.declared.body.Bind.TheVariants as bind
use Rattle.cps_ir.specs.Program.{Cps, code_at, tree_of}
use Rattle.cps_ir.specs.Kept.{IsProgram}
use Rattle.cps_ir.specs.Slim.{Layout, layouts}
use Rattle.closure_ir.specs.Program as closing
use Rattle.closure_ir.specs.declared.body.Body.{Body}
use Rattle.label_order.specs.Order.{AreApart}
use Rattle.closure_plan.proofs.Apart.{slim_apart, pointed_once}
use Rattle.close_laws.specs.Layouts.{Facts, label, name_at}
use Rattle.close_laws.specs.Lower.{lower_function}
use Rattle.close_laws.specs.Close.{Labelled, design_of, functions_in, labelled, by_label, routines_of}
use Rattle.close_laws.specs.Close as laws
use Rattle.close_steps.specs.declared.decisions.Decision.{Decision}
use Rattle.close_steps.specs.declared.decisions.Decisions.{Decisions}
use Rattle.close_steps.specs.Visible.{Have, decided, decision_of}
use Rattle.close_decisions.specs.Tables.{AreTables}
use Rattle.close_decisions.proofs.Below.{programs as programs_have}
use Rattle.close_bodies.specs.Bodies.{IsBound}
use Rattle.close_entries.specs.Entries.{entered}
use Rattle.close_rows.specs.Rows.{AreBound, AreLowered}
use Rattle.close_rows.proofs.Lowering.{routines_lower, main_lowers}
use Rattle.close_names.proofs.Standing.{programs as programs_bound}
use Rattle.close_names.proofs.Pointed.{pointed}
use Rattle.close_seen.specs.Seen.{body_functions, functions_of, all_closed, last_table, seen_in, AreSeen}
use Rattle.close_seen.proofs.Tables.{lowered, seen}
use Rattle.close_seen.proofs.Tally.{once, all_among, bodies_of, among_tally, tally_among, tally_parts, parts_range}
use Rattle.close_labels.specs.Slots.{routine_by, fill, of_slot, of_slots, routines_by_label}
use Rattle.close_main.specs.Main.{facts_of, ProgramsAreClosed}
use Rattle.close_main.proofs.Sums.{owns, counted}
use Rattle.close_main.proofs.Unfolded.{labelled_by, weigh, weigh_entries, entries_append, weigh_body, owner_of, group_of, found}
use Rattle.close_main.proofs.Filling.{slot_at, fill_by, fill_is, fill_length, fill_taken, count, counts, only_one, length_empty, filled_from_none, in_slots}
use Rattle.close_main.proofs.Labels.{weigh_labels, weigh_layouts, in_step, of, few}

-- ---- Functions of one label

none_with : (gs : List Labelled) (l : ℕ) → ((g : Labelled) → IsAmong g gs → g.label ≡ l → ⊥) → laws.with_label l gs ≡ []
none_with [] l h = refl
none_with (g ∷ gs) l h = by (nat_eq g.label l) refl (none_with gs l (λ k m. h k (inr m)))
  where
    by : (b : Bool) → nat_eq g.label l ≡ b → laws.with_label l gs ≡ [] → cond b (g ∷ laws.with_label l gs) (laws.with_label l gs) ≡ []
    by true e r = absurd (h g (inl refl) (eqb-true g.label l e))
    by false e r = r

none_left : (A : Facts) (gs : List Labelled) (l : ℕ) → weigh_labels A (of l) gs ≡ 0 → laws.with_label l gs ≡ []
none_left A [] l h = refl
none_left A (g ∷ gs) l h = by (nat_eq g.label l) refl (none_left A gs l (omega (arith, h)))
  where
    by : (b : Bool) → nat_eq g.label l ≡ b → laws.with_label l gs ≡ [] → cond b (g ∷ laws.with_label l gs) (laws.with_label l gs) ≡ []
    by true e r = absurd (let o : once (nat_eq g.label l) ≡ 1 = ap once e in omega (arith, o, h))
    by false e r = r

one_with : (A : Facts) (gs : List Labelled) (l : ℕ) (x : Labelled) → weigh_labels A (of l) gs ≡ 1 → ((g : Labelled) → IsAmong g gs → g.label ≡ l → g ≡ x) → laws.with_label l gs ≡ x ∷ []
one_with A [] l x c h = absurd (omega (arith, c))
one_with A (g ∷ gs) l x c h = by (nat_eq g.label l) refl (λ z. one_with A gs l x z (λ k m. h k (inr m)))
  where
    by : (b : Bool) → nat_eq g.label l ≡ b → (weigh_labels A (of l) gs ≡ 1 → laws.with_label l gs ≡ x ∷ []) → cond b (g ∷ laws.with_label l gs) (laws.with_label l gs) ≡ x ∷ []
    by true e r =
        let o : once (nat_eq g.label l) ≡ 1 = ap once e in
        ap (λ k. k ∷ laws.with_label l gs) (h g (inl refl) (eqb-true g.label l e)) ∙ ap (λ ks. x ∷ ks) (none_left A gs l (omega (arith, o, c)))
    by false e r = let o : once (nat_eq g.label l) ≡ 0 = ap once e in r (omega (arith, o, c))

-- slots one after another are labels one after another
in_order : (lab : Entry → Labelled) (gs : List Labelled) (slots : List (Option Entry)) (l : ℕ) → ((m : ℕ) → m < length slots → map lab (of_slot (slot_at slots m)) ≡ laws.with_label (l + m) gs) → map lab (of_slots slots) ≡ by_label l (length slots) gs
in_order lab gs [] l h = refl
in_order lab gs (s ∷ slots) l h =
    let same : l + 0 ≡ l = omega arith in
    map_append lab (of_slot s) (of_slots slots)
    ∙ ap (λ ks. ks ++ map lab (of_slots slots)) (h 0 (omega arith) ∙ ap (λ n. laws.with_label n gs) same)
    ∙ ap (λ ks. laws.with_label l gs ++ ks) (in_order lab gs slots (suc l) (λ m k. h (suc m) (omega (arith, k)) ∙ (let up : l + suc m ≡ suc l + m = omega arith in ap (λ n. laws.with_label n gs) up)))
  where
    map_append : (f : Entry → Labelled) (xs ys : List Entry) → map f (xs ++ ys) ≡ map f xs ++ map f ys
    map_append f [] ys = refl
    map_append f (x ∷ xs) ys = ap (λ zs. f x ∷ zs) (map_append f xs ys)

is_body : (fs : List Entry) (f : Entry) → IsAmong f fs → IsAmong f.body (bodies_of fs)
is_body [] f m = m
is_body (g ∷ fs) f (inl e) = inl (ap (λ (h : Entry). h.body) e)
is_body (g ∷ fs) f (inr m) = inr (is_body fs f m)

module _ (q : Cps) (kept : IsProgram q) (apart : AreApart (layouts (code_at q.bodies 0))) (d : Decisions) (tables : AreTables (facts_of q) q.variables d) where
  abbrev A : Facts
  A = facts_of q

  abbrev fs : List Entry
  fs = functions_of q.bodies

  abbrev pub lab : Entry → ℕ
  lab f = label (facts_of q) f.point

  abbrev gs : List Labelled
  gs = functions_in A (code_at q.bodies 0)

  pub have : Have (design_of (facts_of q)) d
  have = programs_have q kept d tables

  bound : AreBound (design_of A) q.bodies
  bound = programs_bound q kept

  -- ---- What is decided of each function

  pub known : (f : Entry) → IsAmong f fs → (design_of A).known f.name ≡ Some f.point
  known f m =
      let o = owner_of q.bodies f m in
      let g = group_of o.1.binds f o.3 in
      all_among (λ e. (design_of A).known e.name ≡ Some e.point) g.0 f (all_among (IsBound (design_of A)) o.1.binds (bind.Fix g.0) (bound o.0 o.1 o.2) g.1) g.2

  at_point : (f : Entry) → IsAmong f fs → name_at A f.point ≡ f.name
  at_point f m =
      let o = owner_of q.bodies f m in
      let g = group_of o.1.binds f o.3 in
      all_among (λ e. name_at A e.point ≡ e.name) g.0 f (pointed q kept (pointed_once (layouts (code_at q.bodies 0)) apart) o.0 o.1 o.2 g.0 g.1) g.2

  abbrev decision : Entry → Decision
  decision f = record { label = record { 0 = lab f }; is_static = (design_of A).static f.point; has_code = (design_of A).code f.point; classes = (design_of A).classes f.point; own = (design_of A).own f.point }

  pub decided_is : (f : Entry) → IsAmong f fs → decided d f.name ≡ Some (decision f)
  decided_is f m = have.functions f.name ∙ ap (decision_of (design_of A)) (known f m)

  -- ---- How many there are

  owned : (w : ℕ → ℕ) (bs : List Rattle.cps_ir.specs.declared.body.Body.Body) → owns (λ b. weigh_entries A (code_at q.bodies) w (body_functions b)) bs ≡ weigh_entries A (code_at q.bodies) w (functions_of bs)
  owned w [] = refl
  owned w (b ∷ bs) = let e = owned w bs in let a = entries_append A (code_at q.bodies) w (body_functions b) (functions_of bs) in omega (arith, e, a)

  in_rows : (w : ℕ → ℕ) → weigh_labels A w gs ≡ weigh_entries A (code_at q.bodies) w fs
  in_rows w =
      let c = counted (λ c. weigh_labels A w (functions_in A c)) (λ b. weigh_entries A (code_at q.bodies) w (body_functions b)) unfolds q kept in
      c ∙ owned w q.bodies
    where
      same : (part : ℕ → Rattle.cps_ir.specs.Code.Code) (hs : List Labelled) → weigh A part w hs ≡ weigh_labels A w hs
      same part [] = refl
      same part (h ∷ hs) = ap (λ n. w h.label + n) (same part hs)

      entries_same : (part : ℕ → Rattle.cps_ir.specs.Code.Code) (es : List Entry) → weigh_entries A part w es ≡ weigh_entries A (code_at q.bodies) w es
      entries_same part [] = refl
      entries_same part (e ∷ es) = ap (λ n. w (label A e.point) + n) (entries_same part es)

      sums_same : (part : ℕ → Rattle.cps_ir.specs.Code.Code) (js : List ℕ) → Rattle.close_main.proofs.Sums.sum_of (λ j. weigh A part w (functions_in A (part j))) js ≡ Rattle.close_main.proofs.Sums.sum_of (λ j. weigh_labels A w (functions_in A (part j))) js
      sums_same part [] = refl
      sums_same part (j ∷ js) = let e = same part (functions_in A (part j)) in let r = sums_same part js in omega (arith, e, r)

      unfolds : (part : ℕ → Rattle.cps_ir.specs.Code.Code) (b : Rattle.cps_ir.specs.declared.body.Body.Body) → weigh_labels A w (functions_in A (Rattle.cps_ir.specs.Program.code_of_body part (Some b))) ≡ weigh_entries A (code_at q.bodies) w (body_functions b) + Rattle.close_main.proofs.Sums.sum_of (λ j. weigh_labels A w (functions_in A (part j))) (Rattle.cps_ir.specs.Kept.body_parts b)
      unfolds part b =
          let e = weigh_body A part w b in
          let s = same part (functions_in A (Rattle.cps_ir.specs.Program.code_of_body part (Some b))) in
          let t = entries_same part (body_functions b) in
          let u = sums_same part (Rattle.cps_ir.specs.Kept.body_parts b) in
          omega (arith, e, s, t, u)

  counted_fs : (l : ℕ) (es : List Entry) → count lab l es ≡ weigh_entries A (code_at q.bodies) (of l) es
  counted_fs l [] = refl
  counted_fs l (e ∷ es) = ap (λ n. once (nat_eq (lab e) l) + n) (counted_fs l es)

  pub few_fs : (l : ℕ) → count lab l fs ≤ 1
  few_fs l = let a = counted_fs l fs in let b = in_rows (of l) in let c = few A (code_at q.bodies 0) refl apart l in omega (arith, a, b, c)

  length_entries : (es : List Entry) → weigh_entries A (code_at q.bodies) (λ n. 1) es ≡ length es
  length_entries [] = refl
  length_entries (e ∷ es) = let r = length_entries es in omega (arith, r)

  length_labels : (hs : List Labelled) → weigh_labels A (λ n. 1) hs ≡ length hs
  length_labels [] = refl
  length_labels (h ∷ hs) = let r = length_labels hs in omega (arith, r)

  length_layouts : (ls : List Layout) → weigh_layouts A (λ n. 1) ls ≡ length ls
  length_layouts [] = refl
  length_layouts (l ∷ ls) = let r = length_layouts ls in omega (arith, r)

  pub as_many : length (functions_in (facts_of q) (code_at q.bodies 0)) ≡ length (functions_of q.bodies)
  as_many = sym (length_labels gs) ∙ in_rows (λ n. 1) ∙ length_entries fs

  pub as_many_layouts : length (layouts (code_at q.bodies 0)) ≡ length (functions_of q.bodies)
  as_many_layouts = sym (length_layouts (layouts (code_at q.bodies 0))) ∙ sym (in_step A (λ n. 1) (code_at q.bodies 0)) ∙ in_rows (λ n. 1) ∙ length_entries fs

  -- ---- Slots

  abbrev slots : List (Option Entry)
  slots = fill_by lab (replicate (length fs) None) fs

  pub filled : fill d (replicate (length (functions_of q.bodies)) None) (functions_of q.bodies) ≡ fill_by lab (replicate (length (functions_of q.bodies)) None) (functions_of q.bodies)
  filled = fill_is lab d fs (λ f m. (decision f, decided_is f m, refl)) (replicate (length fs) None)

  slots_length : length slots ≡ length fs
  slots_length = fill_length lab (replicate (length fs) None) fs ∙ length_empty lab (length fs)

  abbrev labelled_f : Entry → Labelled
  labelled_f f = labelled_by A (code_at q.bodies) f

  slot_is : (l : ℕ) → l < length fs → (o : Option Entry) → slot_at slots l ≡ o → map labelled_f (of_slot (slot_at slots l)) ≡ laws.with_label l gs
  slot_is l h None e =
      ap (λ o. map labelled_f (of_slot o)) e
      ∙ sym
      (none_with gs l
      (λ g m k.
      let r = found A q kept g m in
      let at : lab r.0 ≡ l = sym (ap (λ (x : Labelled). x.label) r.2) ∙ k in
      let n = length_empty lab (length fs) in
      let t = fill_taken lab (replicate (length fs) None) fs r.0 r.1 (omega (arith, h, at, n)) in
      let z : None ≡ Some t.0 = sym e ∙ ap (slot_at slots) (sym at) ∙ t.1 in cc))
  slot_is l h (Some f) e =
      let r = filled_from_none lab (length fs) fs l f e in
      let a = in_rows (of l) in
      let b = counted_fs l fs in
      let c = few_fs l in
      let g = counts lab l fs f r.0 r.1 in
      ap (λ o. map labelled_f (of_slot o)) e
      ∙ sym
      (one_with A gs l (labelled_f f) (omega (arith, a, b, c, g))
      (λ x m k.
      let s = found A q kept x m in
      let at : lab s.0 ≡ l = sym (ap (λ (y : Labelled). y.label) s.2) ∙ k in
      s.2 ∙ ap labelled_f (only_one lab l fs s.0 f c s.1 r.0 at r.1)))

  all_in_order : map labelled_f (of_slots slots) ≡ labelled A (code_at q.bodies 0)
  all_in_order =
      in_order labelled_f gs slots 0
      (λ m h. (let n = slots_length in slot_is m (omega (arith, h, n)) (slot_at slots m) refl) ∙ (let same : m ≡ 0 + m = omega arith in ap (λ k. laws.with_label k gs) same))
      ∙ ap (λ n. by_label 0 n gs) (slots_length ∙ sym as_many)

  -- ---- Routines

  abbrev made : List Body
  made = all_closed d q.bodies

  whole : AreLowered d (seen_in (last_table d q.bodies)) q.bodies made
  whole = lowered d q.bodies kept.numbered kept.apart

  views : AreSeen d q.bodies (seen_in (last_table d q.bodies))
  views = seen d q.bodies kept.numbered kept.apart

  pub body_low : (f : Entry) → IsAmong f (functions_of q.bodies) → f.body < length q.bodies
  body_low f m =
      let a = among_tally f.body (bodies_of fs) (is_body fs f m) in
      let s = tally_parts f.body q.bodies in
      (parts_range q.bodies kept.numbered f.body (tally_among f.body _ (omega (arith, a, s)))).1

  one_routine : (f : Entry) → IsAmong f fs → closing.routine_of made (routine_by f) ≡ (labelled_f f).routine
  one_routine f m =
      let at = at_point f m in
      subst (λ n. closing.routine_of made (record { params = n ∷ f.params; body = f.body }) ≡ lower_function (design_of A) n f.point f.params (code_at q.bodies f.body)) at
      (routines_lower A d have (seen_in (last_table d q.bodies)) q.bodies made kept.numbered bound whole f.point (decision f) refl f.params f.body (body_low f m)
      (views.functions f m (decision f) (decided_is f m) ∙ ap (λ n. entered d n (decision f) f.params) (sym at)))

  routines_same : (es : List Entry) → ((f : Entry) → IsAmong f es → IsAmong f fs) → map (closing.routine_of made) (map routine_by es) ≡ routines_of (map labelled_f es)
  routines_same [] h = refl
  routines_same (e ∷ es) h =
      ap (λ r. r ∷ map (closing.routine_of made) (map routine_by es)) (one_routine e (h e (inl refl))) ∙ ap (λ rs. (labelled_f e).routine ∷ rs) (routines_same es (λ f m. h f (inr m)))

  pub slot_member : (f : Entry) → IsAmong f (of_slots (fill_by lab (replicate (length (functions_of q.bodies)) None) (functions_of q.bodies))) → IsAmong f (functions_of q.bodies)
  slot_member f m = let r = in_slots slots f m in (filled_from_none lab (length fs) fs r.0 f r.1).0

  functions_same : map (closing.routine_of made) (routines_by_label d fs) ≡ routines_of (labelled A (code_at q.bodies 0))
  functions_same =
      ap (λ ss. map (closing.routine_of made) (map routine_by (of_slots ss))) filled
      ∙ routines_same (of_slots slots) slot_member
      ∙ ap routines_of all_in_order

  main_same : closing.code_at made 0 ≡ Rattle.close_laws.specs.Lower.lower (design_of A) laws.nowhere laws.none_at_hand (code_at q.bodies 0)
  main_same =
      main_lowers (design_of A) d have (seen_in (last_table d q.bodies)) q.bodies made kept.numbered bound whole (let n = kept.one_tree in omega (arith, n)) views.main

pub closed : ProgramsAreClosed
closed q kept slim d tables =
    let apart = slim_apart (tree_of q) slim in
    record { main = main_same q kept apart d tables; functions = functions_same q kept apart d tables }
