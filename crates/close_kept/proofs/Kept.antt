-- What is made of a slim program is a program.
use Rattle.std.proofs.Common.{◌≡◌, ℕ, zero, suc, ◌+◌, ◌<◌, ◌≤◌, ◌^◌, Bool, true, false, cond, List, [], ◌∷◌, ◌++◌, Option, Some, None, map, flat_map, length, replicate, inl, inr, refl, sym, ap, ◌∙◌, subst, arith, nat_eq}
use Rattle.std.specs.List.{AllByRecursion}
use Rattle.simulation.specs.Blocks.{IsAmong}
use Rattle.sml_tree.specs.IsBare.{IsDistinct}
use Rattle.sml_tree.specs.Order.{AscendFrom}
use Rattle.sml_def.specs.Run.{eq_point}
use Rattle.cps_ir.specs.declared.body.Function.{Function as Entry}
use Rattle.cps_ir.specs.declared.body.Body.{Body as OpenBody}
use Rattle.cps_ir.specs.Program.{Cps, code_at, tree_of}
use Rattle.cps_ir.specs.Kept.{IsProgram, end_parts, body_parts}
use Rattle.cps_ir.specs.Free.{bound}
use Rattle.cps_ir.specs.Slim.{Layout, IsSlim, layouts}
use Rattle.lifetime_users.specs.declared.class.Class.{Class}
use Rattle.closure_ir.specs.declared.body.Function.{Function}
use Rattle.closure_ir.specs.Program as closing
use Rattle.closure_ir.specs.Program.{Closed}
use Rattle.closure_ir.specs.Kept as kept
use Rattle.label_order.specs.Order.{AreApart}
use Rattle.label_order.proofs.Labelled.{labelled_in_order}
use Rattle.cps_free.proofs.Unfold.{all_with}
use Rattle.closure_plan.proofs.Apart.{slim_apart}
use Rattle.close_laws.specs.Layouts.{Facts, label, uses_class, classes_of, is_static, layout_named, point_of}
use Rattle.close_laws.specs.Close.{Labelled, compares, design_of, labelled, points_of, routines_of, left_points}
use Rattle.close_steps.specs.declared.decisions.Decision.{Decision}
use Rattle.close_steps.specs.declared.decisions.Decisions.{Decisions}
use Rattle.close_steps.specs.Visible.{Visible, decided, decision_of, places_in}
use Rattle.close_decisions.specs.Tables.{AreTables}
use Rattle.close_bodies.specs.Bodies.{seen_at_end}
use Rattle.close_rows.proofs.Lowering.{parts_same, made_numbered}
use Rattle.close_seen.specs.Seen.{functions_of, all_closed, first_table, last_table, seen_in, closed_from, table_behind, body_functions}
use Rattle.close_seen.proofs.Tables.{lowered}
use Rattle.close_seen.proofs.Tally.{once, once_other, eq_or_not, all_among, tally, tally_append, distinct_tally, tally_distinct, tally_among, ends_of, bodies_of, parts_of_body, tally_parts, parts_range}
use Rattle.close_labels.specs.Slots.{routine_by, of_slots, routines_by_label}
use Rattle.close_main.specs.Main.{facts_of}
use Rattle.close_main.proofs.Filling.{fill_by, weigh, weighed_from_none}
use Rattle.close_main.proofs.Labels.{label_low}
use Rattle.close_main.proofs.Main.{lab, have, few_fs, as_many_layouts, filled, body_low, slot_member, closed}
use Rattle.close_kept.specs.Kept.{closed_by, ProgramsAreKept}
use Rattle.close_kept.proofs.Good.{Fine, BindBelow, enter_good, none_good, closed_kept}
use Rattle.close_kept.proofs.Below.{rows_below, names_below}
use Rattle.close_kept.proofs.Ordered.{in_order}

length_both : {X : Type 0} (xs ys : List X) → length (xs ++ ys) ≡ length xs + length ys
length_both [] ys = omega arith
length_both (x ∷ xs) ys = let e = length_both xs ys in omega (arith, e)

length_map : {X Y : Type 0} (f : X → Y) (xs : List X) → length (map f xs) ≡ length xs
length_map f [] = refl
length_map f (x ∷ xs) = ap suc (length_map f xs)

all_of : {X : Type 0} (P : X → Type 0) (xs : List X) → ((x : X) → IsAmong x xs → P x) → AllByRecursion P xs
all_of P [] h = tt
all_of P (x ∷ xs) h = (h x (inl refl), all_of P xs (λ y m. h y (inr m)))

-- ---- What layouts have

named_among : (ls : List Layout) (x : ℕ) (l : Layout) → layout_named ls x ≡ Some l → IsAmong l ls
named_among [] x l e = absurd (cc)
named_among (k ∷ ls) x l e = by (nat_eq k.name x) e (named_among ls x l)
  where
    by : (b : Bool) → cond b (Some k) (layout_named ls x) ≡ Some l → (layout_named ls x ≡ Some l → IsAmong l ls) → IsAmong l (k ∷ ls)
    by true f r = inl (let o : k ≡ l = cc in sym o)
    by false f r = inr (r f)

classes_low : (n l : ℕ) (ks : List Class) → AllByRecursion (λ c. c < n + length ks) (classes_of n l ks)
classes_low n l [] = tt
classes_low n l (k ∷ ks) =
    by (uses_class l k) (all_with (λ c. c < suc n + length ks) (λ c. c < n + length (k ∷ ks)) (λ c h. omega (arith, h)) (classes_of (suc n) l ks) (classes_low (suc n) l ks))
  where
    by : (b : Bool) → AllByRecursion (λ c. c < n + length (k ∷ ks)) (classes_of (suc n) l ks) → AllByRecursion (λ c. c < n + length (k ∷ ks)) (cond b (n ∷ classes_of (suc n) l ks) (classes_of (suc n) l ks))
    by true r = (omega arith, r)
    by false r = r

-- ---- Bodies

bodies_routines : (es : List Entry) → map (λ (f : Function). f.body) (map routine_by es) ≡ bodies_of es
bodies_routines [] = refl
bodies_routines (e ∷ es) = ap (λ js. e.body ∷ js) (bodies_routines es)

closed_parts : (d : Decisions) (t : List Visible) (i : ℕ) (bs : List OpenBody) → flat_map kept.body_parts (closed_from d t i bs) ≡ ends_of bs
closed_parts d t i [] = refl
closed_parts d t i (b ∷ bs) =
    ap (λ js. js ++ flat_map kept.body_parts (closed_from d (table_behind d t i b) (suc i) bs)) (parts_same d (places_in d (seen_at_end d (seen_in t i) b.binds)) b.end)
    ∙ ap (λ js. end_parts b.end ++ js) (closed_parts d (table_behind d t i b) (suc i) bs)

length_parts : (bodies : List OpenBody) → length (flat_map body_parts bodies) ≡ length (functions_of bodies) + length (ends_of bodies)
length_parts [] = refl
length_parts (b ∷ bodies) =
    let own = bodies_of (body_functions b) in
    let a = length_both (body_parts b) (flat_map body_parts bodies) in
    let c : length (body_parts b) ≡ length own + length (end_parts b.end) = ap length (parts_of_body b) ∙ length_both own (end_parts b.end) in
    let m : length own ≡ length (body_functions b) = length_map (λ (f : Entry). f.body) (body_functions b) in
    let e = length_both (body_functions b) (functions_of bodies) in
    let f = length_both (end_parts b.end) (ends_of bodies) in
    let r = length_parts bodies in
    omega (arith, a, c, m, e, f, r)

length_points : (gs : List Labelled) → length (points_of gs) ≡ length (routines_of gs)
length_points [] = refl
length_points (g ∷ gs) = ap suc (length_points gs)

at_most_one : (b : Bool) → length (cond b (eq_point ∷ []) []) ≤ 1
at_most_one true = omega arith
at_most_one false = omega arith

module _ (q : Cps) (keeps : IsProgram q) (slim : IsSlim (tree_of q)) (d : Decisions) (tables : AreTables (facts_of q) q.variables d) (nodes : AllByRecursion (λ l. l.point.node < 2 ^ 32) (layouts (code_at q.bodies 0))) where
  abbrev A : Facts
  A = facts_of q

  abbrev p : Closed
  p = closed_by q d

  abbrev fs : List Entry
  fs = functions_of q.bodies

  apart : AreApart (layouts (code_at q.bodies 0))
  apart = slim_apart (tree_of q) slim

  abbrev name : Entry → ℕ
  name f = lab q keeps apart d tables f

  abbrev es : List Entry
  es = of_slots (fill_by name (replicate (length fs) None) fs)

  functions_are : routines_by_label d fs ≡ map routine_by es
  functions_are = ap (λ ss. map routine_by (of_slots ss)) (filled q keeps apart d tables)

  abbrev layout_all : List Layout
  layout_all = layouts (code_at q.bodies 0)

  many : length layout_all ≡ length fs
  many = as_many_layouts q keeps apart d tables

  -- each function has a layout, by its name
  layout_of : (f : Entry) → IsAmong f fs → (l : Layout) × IsAmong l layout_all × (l.point ≡ f.point)
  layout_of f m = by (layout_named layout_all f.name) refl
    where
      known : point_of (layout_named layout_all f.name) ≡ Some f.point
      known = Rattle.close_main.proofs.Main.known q keeps apart d tables f m

      by : (o : Option Layout) → layout_named layout_all f.name ≡ o → (l : Layout) × IsAmong l layout_all × (l.point ≡ f.point)
      by None e = absurd (let z : None ≡ Some f.point = sym (ap point_of e) ∙ known in cc)
      by (Some l) e = (l, named_among layout_all f.name l e, (let z : Some l.point ≡ Some f.point = sym (ap point_of e) ∙ known in cc))

  low : (f : Entry) → IsAmong f fs → name f < length fs
  low f m =
      let r = layout_of f m in
      let a = label_low r.0 layout_all r.1 in
      let same : Rattle.lifetime_users.specs.Users.label_in layout_all r.0.point ≡ name f = ap (λ t. Rattle.lifetime_users.specs.Users.label_in layout_all t) r.2 in
      omega (arith, a, same, many)

  weighed : (w : Entry → ℕ) → weigh name w es ≡ weigh name w fs
  weighed w = weighed_from_none name w (length fs) fs (few_fs q keeps apart d tables) low

  weigh_length : (xs : List Entry) → weigh name (λ f. 1) xs ≡ length xs
  weigh_length [] = refl
  weigh_length (x ∷ xs) = let r = weigh_length xs in omega (arith, r)

  length_es : length es ≡ length fs
  length_es = sym (weigh_length es) ∙ weighed (λ f. 1) ∙ weigh_length fs

  length_functions : length (routines_by_label d fs) ≡ length fs
  length_functions = ap length functions_are ∙ length_map routine_by es ∙ length_es

  weigh_bodies : (n : ℕ) (xs : List Entry) → weigh name (λ f. once (nat_eq n f.body)) xs ≡ tally n (bodies_of xs)
  weigh_bodies n [] = refl
  weigh_bodies n (x ∷ xs) = ap (λ k. once (nat_eq n x.body) + k) (weigh_bodies n xs)

  tally_functions : (n : ℕ) → tally n (bodies_of es) ≡ tally n (bodies_of fs)
  tally_functions n = sym (weigh_bodies n es) ∙ weighed (λ f. once (nat_eq n f.body)) ∙ weigh_bodies n fs

  -- ---- Where bodies stand

  abbrev parts : List ℕ
  parts = flat_map body_parts q.bodies

  few_parts : (n : ℕ) → tally n (0 ∷ parts) ≤ 1
  few_parts n =
      eq_or_not n 0 (tally n (0 ∷ parts) ≤ 1)
      (λ e. (let o = none n e in let b = at_once (nat_eq n 0) in omega (arith, o, b)))
      (λ e. (let o = once_other n 0 e in let b = distinct_tally parts keeps.apart n in omega (arith, o, b)))
    where
      at_once : (b : Bool) → once b ≤ 1
      at_once true = omega arith
      at_once false = omega arith

      none : (k : ℕ) → k ≡ 0 → tally k parts ≡ 0
      none k e = by (tally k parts) refl
        where
          by : (m : ℕ) → tally k parts ≡ m → tally k parts ≡ 0
          by zero f = f
          by (suc m) f = absurd (let h = (parts_range q.bodies keeps.numbered k (tally_among k parts (omega (arith, f)))).0 in omega (arith, h, e))

  places_are : kept.places p ≡ 0 ∷ (bodies_of es ++ ends_of q.bodies)
  places_are =
      ap (λ js. 0 ∷ (js ++ flat_map kept.body_parts (all_closed d q.bodies))) (ap (map (λ (f : Function). f.body)) functions_are ∙ bodies_routines es)
      ∙ ap (λ js. 0 ∷ (bodies_of es ++ js)) (closed_parts d (first_table d q.bodies) 0 q.bodies)

  places_apart : IsDistinct (kept.places p)
  places_apart =
      subst IsDistinct (sym places_are)
      (tally_distinct (0 ∷ (bodies_of es ++ ends_of q.bodies))
      (λ n. (let a = few_parts n in let b = tally_append n (bodies_of es) (ends_of q.bodies) in let c = tally_functions n in let e = tally_parts n q.bodies in omega (arith, a, b, c, e))))

  closed_length : length (all_closed d q.bodies) ≡ length q.bodies
  closed_length = (lowered d q.bodies keeps.numbered keeps.apart).len

  places_all : length (kept.places p) ≡ length (all_closed d q.bodies)
  places_all =
      let a = ap length places_are in
      let b = length_both (bodies_of es) (ends_of q.bodies) in
      let c : length (bodies_of es) ≡ length es = length_map (λ (f : Entry). f.body) es in
      let e = length_parts q.bodies in
      let f = keeps.one_tree in
      omega (arith, a, b, c, e, f, length_es, closed_length)

  -- ---- Points

  points_ascend : AscendFrom 0 (left_points A (code_at q.bodies 0))
  points_ascend =
      subst (λ ps. AscendFrom 0 (ps ++ cond (compares (code_at q.bodies 0)) (eq_point ∷ []) [])) (sym (labelled_in_order A (code_at q.bodies 0) refl))
      (in_order layout_all (length layout_all) (compares (code_at q.bodies 0)) apart slim.functions nodes)

  length_left : length (left_points A (code_at q.bodies 0)) ≡ length (routines_by_label d fs) + length (cond (compares (code_at q.bodies 0)) (eq_point ∷ []) [])
  length_left =
      let gs = labelled A (code_at q.bodies 0) in
      let a = length_both (points_of gs) (cond (compares (code_at q.bodies 0)) (eq_point ∷ []) []) in
      let b = length_points gs in
      let c : length (routines_by_label d fs) ≡ length (routines_of gs) = sym (length_map (closing.routine_of (all_closed d q.bodies)) (routines_by_label d fs)) ∙ ap length (closed q keeps slim d tables).functions in
      omega (arith, a, b, c)

  -- ---- What is cited

  abbrev top : ℕ
  top = q.variables + length A.classes

  rows : AllByRecursion (λ b. AllByRecursion (BindBelow top) b.binds) q.bodies
  rows = rows_below top q keeps (all_with (λ x. x < q.variables) (λ x. x < top) (λ x h. omega (arith, h)) (bound (code_at q.bodies 0)) keeps.below)

  names : AllByRecursion (λ f. (f.name < top) × AllByRecursion (λ x. x < top) f.params) fs
  names = names_below top q.bodies rows

  decided_by : (x : ℕ) (k : Decision) → decided d x ≡ Some k → (l : Layout) × IsAmong l layout_all × (Some k ≡ decision_of (design_of A) (Some l.point))
  decided_by x k e = by (layout_named layout_all x) refl
    where
      is : decided d x ≡ decision_of (design_of A) (point_of (layout_named layout_all x))
      is = (have q keeps apart d tables).functions x

      by : (o : Option Layout) → layout_named layout_all x ≡ o → (l : Layout) × IsAmong l layout_all × (Some k ≡ decision_of (design_of A) (Some l.point))
      by None f = absurd (let z : Some k ≡ None = sym e ∙ is ∙ ap (λ o. decision_of (design_of A) (point_of o)) f in cc)
      by (Some l) f = (l, named_among layout_all x l f, sym e ∙ is ∙ ap (λ o. decision_of (design_of A) (point_of o)) f)

  classes_fine : (b : Bool) (l : ℕ) → AllByRecursion (λ c. c < length A.classes) (cond b [] (classes_of 0 l A.classes))
  classes_fine true l = tt
  classes_fine false l = all_with (λ c. c < 0 + length A.classes) (λ c. c < length A.classes) (λ c h. omega (arith, h)) (classes_of 0 l A.classes) (classes_low 0 l A.classes)

  fine : Fine p d (length A.classes)
  fine = record {
    labels =
        λ x k e.
        let r = decided_by x k e in
        Rattle.simulation.proofs.Lists.some_eq (λ (j : Decision). j.label.0 < length (routines_by_label d fs)) _ k (sym r.2)
        (let a = label_low r.0 layout_all r.1 in omega (arith, a, many, length_functions));
    classes =
        λ x k e.
        let r = decided_by x k e in
        Rattle.simulation.proofs.Lists.some_eq (λ (j : Decision). AllByRecursion (λ c. c < length A.classes) j.classes) _ k (sym r.2) (classes_fine (is_static A r.0.point) (label A r.0.point));
    room = (let f : d.first_record ≡ q.variables = tables.first in omega (arith, f));
  }

  functions_kept : (xs : List Entry) → ((f : Entry) → IsAmong f xs → IsAmong f fs) → AllByRecursion (kept.FunctionKept p) (map routine_by xs)
  functions_kept [] h = tt
  functions_kept (x ∷ xs) h =
      let m = h x (inl refl) in
      let n = all_among (λ f. (f.name < top) × AllByRecursion (λ y. y < top) f.params) fs x names m in
      (((let b = body_low q keeps apart d tables x m in omega (arith, b, closed_length)), (n.0, n.1)), functions_kept xs (λ f i. h f (inr i)))

  all_kept : AllByRecursion (kept.BodyKept p) (all_closed d q.bodies)
  all_kept =
      closed_kept p q refl refl d (length A.classes) fine (first_table d q.bodies) 0 q.bodies
      (enter_good p q refl refl d (length A.classes) fine (replicate (length q.bodies) Rattle.close_rows.specs.Rows.begun) fs names (none_good p q refl refl d (length A.classes) fine (length q.bodies)))
      keeps.kept rows

  pub whole : kept.IsProgram (closed_by q d)
  whole = record {
    numbered = made_numbered d (seen_in (last_table d q.bodies)) q.bodies (all_closed d q.bodies) keeps.numbered (lowered d q.bodies keeps.numbered keeps.apart);
    apart = places_apart;
    all = places_all;
    points = points_ascend;
    fewer = (let n = length_left in omega (arith, n));
    one_more = (let n = length_left in let o = at_most_one (compares (code_at q.bodies 0)) in omega (arith, n, o));
    functions = subst (AllByRecursion (kept.FunctionKept p)) (sym functions_are) (functions_kept es (slot_member q keeps apart d tables));
    kept = all_kept;
  }

pub programs : ProgramsAreKept
programs q keeps slim d tables nodes = whole q keeps slim d tables nodes
