-- The rows by number are the rows of the definition.
use Rattle.std.proofs.Common.{◌≡◌, ℕ, zero, suc, ◌+◌, ◌-◌, ◌<◌, ◌≤◌, List, [], ◌∷◌, ◌++◌, Option, Some, None, length, map, take, drop, refl, sym, ap, ◌∙◌, subst, arith}
use Rattle.std.specs.Prelude.{slice_get, slice_index_or}
use Rattle.std.proofs.Math.Seq.{take-suc, drop-cons}
use Rattle.std.proofs.lemmas.List.{append_assoc, map-append}
use Rattle.smlc_base.specs.declared.point.Point.{Point}
use Rattle.smlc_base.specs.declared.point.Site.{Site}
use Rattle.cps_ir.specs.Code.{Code}
use Rattle.cps_ir.specs.Slim.{Layout, layouts}
use Rattle.lifetime_users.specs.declared.class.Class.{Class}
use Rattle.lifetime_users.specs.Users.{classes}
use Rattle.close_laws.specs.declared.plan.LabelPlan.{LabelPlan}
use Rattle.close_laws.specs.Layouts.{Facts, facts, layout_classes, record_words, vars_in}
use Rattle.close_laws.specs.Close.{labelled, points_of}
use Rattle.close_laws.specs.Plan.{label_plan}
use Rattle.closure_layouts.specs.declared.layouts.ClosureLayout.{ClosureLayout}
use Rattle.closure_layouts.specs.Found.{closure_at}
use Rattle.label_order.specs.Order.{numbered, at_number, by_label_in, points_in}
use Rattle.label_order.proofs.Labelled.{labelled_in_order}
use Rattle.label_plans.specs.Rows.{records_of, row_of, row_at_number, rows_in}

-- ---- Records

pub records_back : (classes : List Class) (ks : List ℕ) (i d size words total sum : ℕ) → 0 < i → i ≤ length ks → size ≡ length (vars_in (slice_get classes (slice_index_or ks (i - 1) d))) → words ≡ 1 + size → total ≡ records_of classes (drop i ks) → sum ≡ words + total → sum ≡ records_of classes (drop (i - 1) ks)
records_back classes ks i d size words total sum pos le e f g h =
    let k = slice_index_or ks (i - 1) d in
    let next : suc (i - 1) ≡ i = omega arith in
    let front : drop (i - 1) ks ≡ k ∷ drop i ks = drop-cons ks (i - 1) d (omega arith) ∙ ap (λ j. k ∷ drop j ks) next in
    let a : records_of classes (drop (i - 1) ks) ≡ suc (length (vars_in (slice_get classes k))) + records_of classes (drop i ks) = ap (records_of classes) front in
    omega (arith, a, e, f, g, h)

pub records_are : (A : Facts) (ks : List ℕ) → records_of A.classes ks ≡ record_words A ks
records_are A [] = refl
records_are A (k ∷ ks) = ap (λ n. suc (length (vars_in (slice_get A.classes k))) + n) (records_are A ks)

-- ---- Rows

row_is : (A : Facts) (left : List Point) (sites : List Site) (p : Point) → row_of left sites A.classes p (closure_at A p) ≡ label_plan A sites left p
row_is A left sites p = ap (λ n. record { point = p; place = (label_plan A sites left p).place; words = (label_plan A sites left p).words; records = n; source = (label_plan A sites left p).source }) (records_are A (layout_classes A p))

module _ (A : Facts) (left : List Point) (sites : List Site) where
  abbrev F : Layout → LabelPlan
  F l = label_plan A sites left l.point

  abbrev G : Layout → ClosureLayout
  G l = closure_at A l.point

  one_row : (all : List Layout) (i : ℕ) → row_at_number left sites A.classes (slice_get all i) (slice_get (map G all) i) ≡ map F (at_number (slice_get all i))
  one_row [] i = refl
  one_row (l ∷ all) zero = ap (λ r. r ∷ []) (row_is A left sites l.point)
  one_row (l ∷ all) (suc i) = one_row all i

  rows_are : (all : List Layout) (order : List ℕ) → rows_in left sites A.classes all (map G all) order ≡ map F (numbered all order)
  rows_are all [] = refl
  rows_are all (i ∷ order) =
      ap (λ rs. rs ++ rows_in left sites A.classes all (map G all) order) (one_row all i) ∙ ap (λ rs. map F (at_number (slice_get all i)) ++ rs) (rows_are all order)
      ∙ sym (map-append F (at_number (slice_get all i)) (numbered all order))

  of_points : (ls : List Layout) → map F ls ≡ map (label_plan A sites left) (points_in ls)
  of_points [] = refl
  of_points (l ∷ ls) = ap (λ rs. F l ∷ rs) (of_points ls)

pub planned : (c : Code) (fresh : ℕ) (left : List Point) (sites : List Site) (cls : List Class) (all : List Layout) (ks : List ClosureLayout) (order : List ℕ) → all ≡ layouts c → ks ≡ map (λ (l : Layout). closure_at (facts fresh c) l.point) (layouts c) → numbered all order ≡ by_label_in all all → cls ≡ classes c → rows_in left sites cls all ks order ≡ map (label_plan (facts fresh c) sites left) (points_of (labelled (facts fresh c) c))
planned c fresh left sites cls all ks order e f o h =
    let A : Facts = facts fresh c in
    let by : numbered (layouts c) order ≡ by_label_in (layouts c) (layouts c) = subst (λ ls. numbered ls order ≡ by_label_in ls ls) e o in
    ap (λ js. rows_in left sites js all ks order) h ∙ ap (λ ls. rows_in left sites (classes c) ls ks order) e ∙ ap (λ js. rows_in left sites (classes c) (layouts c) js order) f
    ∙ rows_are (facts fresh c) left sites (layouts c) order
    ∙ ap (map (λ (l : Layout). label_plan (facts fresh c) sites left l.point)) by
    ∙ of_points (facts fresh c) left sites (by_label_in (layouts c) (layouts c))
    ∙ ap (map (label_plan (facts fresh c) sites left)) (sym (labelled_in_order (facts fresh c) c refl))

-- ---- One row more

rows_append : (left : List Point) (sites : List Site) (cls : List Class) (all : List Layout) (ks : List ClosureLayout) (order : List ℕ) (i : ℕ) → rows_in left sites cls all ks (order ++ i ∷ []) ≡ rows_in left sites cls all ks order ++ row_at_number left sites cls (slice_get all i) (slice_get ks i)
rows_append left sites cls all ks [] i = nothing (row_at_number left sites cls (slice_get all i) (slice_get ks i))
  where
    nothing : (rs : List LabelPlan) → rs ++ [] ≡ rs
    nothing [] = refl
    nothing (r ∷ rs) = ap (λ qs. r ∷ qs) (nothing rs)
rows_append left sites cls all ks (j ∷ order) i =
    ap (λ rs. row_at_number left sites cls (slice_get all j) (slice_get ks j) ++ rs) (rows_append left sites cls all ks order i)
    ∙ sym (append_assoc (row_at_number left sites cls (slice_get all j) (slice_get ks j)) (rows_in left sites cls all ks order) (row_at_number left sites cls (slice_get all i) (slice_get ks i)))

pub row_more : (left : List Point) (sites : List Site) (cls : List Class) (all : List Layout) (ks : List ClosureLayout) (order : List ℕ) (j d : ℕ) (old new : List LabelPlan) → j < length order → old ≡ rows_in left sites cls all ks (take j order) → new ≡ old ++ row_at_number left sites cls (slice_get all (slice_index_or order j d)) (slice_get ks (slice_index_or order j d)) → new ≡ rows_in left sites cls all ks (take (j + 1) order)
row_more left sites cls all ks order j d old new lt e f =
    let i = slice_index_or order j d in
    let next : suc j ≡ j + 1 = omega arith in
    f ∙ ap (λ rs. rs ++ row_at_number left sites cls (slice_get all i) (slice_get ks i)) e
    ∙ sym (rows_append left sites cls all ks (take j order) i)
    ∙ ap (rows_in left sites cls all ks) (sym (take-suc order j d lt))
    ∙ ap (λ k. rows_in left sites cls all ks (take k order)) next

pub no_layout : (left : List Point) (sites : List Site) (cls : List Class) (o : Option Layout) → row_at_number left sites cls o None ≡ []
no_layout left sites cls None = refl
no_layout left sites cls (Some l) = refl
