-- What a body cites stands there, and is in its range, when the body is placed.
use Rattle.std.proofs.Common.{◌≡◌, ℕ, zero, suc, ◌+◌, ◌-◌, ◌<◌, ◌≤◌, Bool, true, false, List, [], ◌∷◌, ◌++◌, length, map, cond, refl, sym, ap, ◌∙◌, subst, arith}
use Rattle.std.specs.Prelude.{nat_lt}
use Rattle.std.specs.List.{AllByRecursion}
use Rattle.std.proofs.lemmas.Bool.{ltb-true}
use Rattle.closure_ir.specs.declared.operand.Static.{Static}
use Rattle.closure_ir.specs.declared.operand.Static.TheVariants as static
use Rattle.closure_ir.specs.declared.operand.Operand.{Operand}
use Rattle.closure_ir.specs.declared.operand.Operand.TheVariants as operand
use Rattle.closure_ir.specs.declared.operand.Shape.{Shape}
use Rattle.closure_ir.specs.declared.operand.Shape.TheVariants as shape
use Rattle.closure_ir.specs.declared.body.Maker.{Maker}
use Rattle.closure_ir.specs.declared.body.Wanted.{Wanted}
use Rattle.closure_ir.specs.declared.body.Wanted.TheVariants as want
use Rattle.closure_ir.specs.declared.body.Test.{Test}
use Rattle.closure_ir.specs.declared.body.Target.{Target}
use Rattle.closure_ir.specs.declared.body.Target.TheVariants as target
use Rattle.closure_ir.specs.declared.body.Bind.{Bind}
use Rattle.closure_ir.specs.declared.body.Bind.TheVariants as bind
use Rattle.closure_ir.specs.declared.body.Rule.{Rule}
use Rattle.closure_ir.specs.declared.body.End.{End}
use Rattle.closure_ir.specs.declared.body.End.TheVariants as end
use Rattle.closure_ir.specs.Program.{Closed}
use Rattle.closure_ir.specs.Kept as kept
use Rattle.placed_ir.specs.declared.home.Home.TheVariants as home
use Rattle.placed_ir.specs.declared.body.Step.{Step}
use Rattle.placed_ir.specs.declared.body.Step.TheVariants as step
use Rattle.placed_ir.specs.Arena.{offset_in}
use Rattle.placed_ir.specs.Program.{Placed}
use Rattle.placed_ir.specs.Kept as there
use Rattle.place_laws.specs.Live.{is_in, without, without_all, names_of}
use Rattle.place_laws.specs.Place.{least_free, home_of, Places, place_beside, maker_length, source_of, source_for, building_of, want_of, test_of}
use Rattle.place_bodies.specs.Steps.{at_of, name_steps, if_alive, bind_steps, bind_table, body_steps, rule_placed, end_placed}

home_kept : (n : ℕ) → there.HomeKept (home_of n)
home_kept n = by (nat_lt n 20) refl
  where
    by : (b : Bool) → nat_lt n 20 ≡ b → there.HomeKept (cond b (home.Register n) (home.Spill (n - 20)))
    by true e = ltb-true n 20 e
    by false e = tt

long : {A B : Type 0} (f : A → B) (xs : List A) → length (map f xs) ≡ length xs
long f [] = refl
long f (x ∷ xs) = ap suc (long f xs)

-- a block of a group begins within the group
offset_below : (at : Places) (group makers : List Maker) (k : ℕ) → k < length makers → offset_in (map maker_length makers) k < there.group_words (map (building_of at group) makers)
offset_below at group [] k h = absurd (omega arith)
offset_below at group (m ∷ makers) zero h = omega arith
offset_below at group (m ∷ makers) (suc k) h =
    let e = long (source_of at group) m.fields in
    let l = offset_below at group makers k (omega arith) in
    omega arith

all_append : {A : Type 0} (P : A → Type 0) (xs ys : List A) → AllByRecursion P xs → AllByRecursion P ys → AllByRecursion P (xs ++ ys)
all_append P [] ys f g = g
all_append P (x ∷ xs) ys f g = (f.0, all_append P xs ys f.1 g)

module _ (p : Closed) (q : Placed) (functions : length p.functions ≡ length q.functions) (texts : length p.texts ≡ length q.texts) (exns : length p.exns ≡ length q.exns) where
  static_kept : (s : Static) → kept.StaticKept p s → there.StaticKept q s
  static_kept (static.Function l) h = subst (λ n. l.0 < n) functions h
  static_kept (static.Text t) h = subst (λ n. t < n) texts h
  static_kept (static.Library e) h = tt

  module _ (at : Places) where
    source_kept : (makers : List Maker) (words : ℕ) → ((k : ℕ) → k < length makers → offset_in (map maker_length makers) k < words) → (o : Operand) → kept.OperandKept p (length makers) o → there.SourceKept q words (source_of at makers o)
    source_kept makers words f (operand.Path x steps) h = home_kept (at x)
    source_kept makers words f (operand.New k) h = f k h
    source_kept makers words f (operand.Static s) h = static_kept s h
    source_kept makers words f (operand.Code l) h = subst (λ n. l.0 < n) functions h
    source_kept makers words f (operand.Literal z) h = h

    sources_kept : (makers : List Maker) (words : ℕ) → ((k : ℕ) → k < length makers → offset_in (map maker_length makers) k < words) → (os : List Operand) → AllByRecursion (kept.OperandKept p (length makers)) os → AllByRecursion (there.SourceKept q words) (map (source_of at makers) os)
    sources_kept makers words f [] h = tt
    sources_kept makers words f (o ∷ os) h = (source_kept makers words f o h.0, sources_kept makers words f os h.1)

    nothing_made : (k : ℕ) → k < 0 → offset_in [] k < 0
    nothing_made k h = absurd (omega arith)

    plain : (o : Operand) → kept.Kept p o → there.Kept q (source_for at o)
    plain o h = source_kept [] 0 nothing_made o h

    plains : (os : List Operand) → AllByRecursion (kept.Kept p) os → AllByRecursion (there.Kept q) (map (source_for at) os)
    plains [] h = tt
    plains (o ∷ os) h = (plain o h.0, plains os h.1)

    shape_kept : (s : Shape) → kept.ShapeKept p s → there.ShapeKept q s
    shape_kept shape.Tuple h = tt
    shape_kept (shape.Applied n) h = h
    shape_kept shape.Cell h = tt
    shape_kept (shape.ExnName x) h = subst (λ n. x < n) exns h
    shape_kept shape.Packet h = tt
    shape_kept (shape.ClassRecord k) h = tt
    shape_kept (shape.Closure l) h = subst (λ n. l.0 < n) functions h

    buildings_kept : (group : List Maker) (words : ℕ) → ((k : ℕ) → k < length group → offset_in (map maker_length group) k < words) → (makers : List Maker) → AllByRecursion (kept.MakerKept p (length group)) makers → AllByRecursion (there.BuildingKept q words) (map (building_of at group) makers)
    buildings_kept group words f [] h = tt
    buildings_kept group words f (m ∷ makers) h = ((shape_kept m.shape h.0.1, sources_kept group words f m.fields h.0.2), buildings_kept group words f makers h.1)

    want_kept : (w : Wanted) → kept.WantedKept p w → there.WantedKept q (want_of at w)
    want_kept (want.Num z) h = h
    want_kept (want.Tag t) h = h
    want_kept (want.Text t) h = subst (λ n. t < n) texts h
    want_kept (want.Exn name applied) h = plain name h

    tests_kept : (tests : List Test) → kept.TestsKept p tests → there.TestsKept q (map (test_of at) tests)
    tests_kept [] h = tt
    tests_kept (t ∷ tests) h = (want_kept t.want h.0, tests_kept tests h.1)

    rules_kept : (rules : List Rule) → AllByRecursion (λ r. kept.TestsKept p r.tests) rules → AllByRecursion (λ r. there.TestsKept q r.tests) (map (rule_placed at) rules)
    rules_kept [] h = tt
    rules_kept (r ∷ rules) h = (tests_kept r.tests h.0, rules_kept rules h.1)

    target_kept : (t : Target) → kept.TargetKept p t → there.TargetKept q t
    target_kept (target.Known l) h = subst (λ n. l.0 < n) functions h
    target_kept target.Through h = tt

    pub end_kept : (e : End) → kept.EndKept p e → there.EndKept q (end_placed at e)
    end_kept (end.Equal a b truth k) h = (plain a h.0, (plain b h.1.0, (plain k h.1.1.0, tt)))
    end_kept (end.Call t f os) h = (target_kept t h.0, (plain f h.1.0, plains os h.1.1))
    end_kept (end.Match o rules otherwise) h = (plain o h.0, rules_kept rules h.1)
    end_kept (end.Throw o) h = plain o h
    end_kept end.Halt h = tt

    names_kept : (alive : List ℕ) (makers : List Maker) (offset : ℕ) (taken : List ℕ) → AllByRecursion (there.StepKept q) (name_steps alive makers offset taken)
    names_kept alive [] offset taken = tt
    names_kept alive (m ∷ makers) offset taken =
        by (is_in m.var alive) (names_kept alive makers (offset + suc (maker_length m)) (least_free taken ∷ taken)) (names_kept alive makers (offset + suc (maker_length m)) taken)
      where
        by : (b : Bool) → AllByRecursion (there.StepKept q) (name_steps alive makers (offset + suc (maker_length m)) (least_free taken ∷ taken)) → AllByRecursion (there.StepKept q) (name_steps alive makers (offset + suc (maker_length m)) taken) → AllByRecursion (there.StepKept q) (cond b (step.Name (home_of (least_free taken)) offset ∷ name_steps alive makers (offset + suc (maker_length m)) (least_free taken ∷ taken)) (name_steps alive makers (offset + suc (maker_length m)) taken))
        by true f g = (home_kept (least_free taken), f)
        by false f g = g

    alive_kept : (x : ℕ) (alive : List ℕ) (s : Step) → there.StepKept q s → AllByRecursion (there.StepKept q) (if_alive x alive s)
    alive_kept x alive s h = by (is_in x alive)
      where
        by : (b : Bool) → AllByRecursion (there.StepKept q) (cond b (s ∷ []) [])
        by true = (h, tt)
        by false = tt

    bind_kept : (b : Bind) (alive : List ℕ) → kept.BindKept p b → AllByRecursion (there.StepKept q) (bind_steps at b alive)
    bind_kept (bind.Make makers) alive h =
        (buildings_kept makers (there.group_words (map (building_of at makers) makers)) (offset_below at makers makers) makers h, names_kept alive makers 0 (map at (without_all (names_of makers) alive)))
    bind_kept (bind.Let x o) alive h =
        alive_kept x alive (step.Let (home_of (place_beside at (without x alive))) (source_for at o)) (home_kept (place_beside at (without x alive)), plain o h.1)
    bind_kept (bind.Prim x f os) alive h =
        (plains os h.1, alive_kept x alive (step.Take (home_of (place_beside at (without x alive)))) (home_kept (place_beside at (without x alive))))
    bind_kept (bind.Handler x) alive h = alive_kept x alive (step.Handler (home_of (place_beside at (without x alive)))) (home_kept (place_beside at (without x alive)))
    bind_kept (bind.SetHandler o) alive h = (plain o h, tt)

  pub steps_kept : (t : List ℕ) (binds : List Bind) (along : List (List ℕ)) → AllByRecursion (kept.BindKept p) binds → AllByRecursion (there.StepKept q) (body_steps t binds along)
  steps_kept t [] along h = tt
  steps_kept t (b ∷ binds) [] h = tt
  steps_kept t (b ∷ binds) (alive ∷ along) h =
      all_append (there.StepKept q) (bind_steps (at_of t) b alive) (body_steps (bind_table t b alive) binds along) (bind_kept (at_of t) b alive h.0) (steps_kept (bind_table t b alive) binds along h.1)
