-- Bodies cite what stands there, where what they see does.
use Rattle.std.proofs.Common.{◌≡◌, ℕ, zero, suc, ◌+◌, ◌<◌, ◌≤◌, ◌^◌, Bool, true, false, cond, List, [], ◌∷◌, ◌++◌, Option, Some, None, map, length, replicate, slice_set, refl, ap, arith, nat_eq, pos}
use Rattle.std.specs.Prelude.{is_some}
use Rattle.std.specs.List.{AllByRecursion}
use Rattle.sml_tree.specs.IsBare.{IsInt}
use Rattle.cps_ir.specs.declared.atom.Constant.{Constant}
use Rattle.cps_ir.specs.declared.atom.Constant.TheVariants as constant
use Rattle.cps_ir.specs.declared.atom.Atom.{Atom}
use Rattle.cps_ir.specs.declared.atom.Atom.TheVariants as atom
use Rattle.cps_ir.specs.declared.atom.Shape.{Shape as Kind}
use Rattle.cps_ir.specs.declared.atom.Shape.TheVariants as kind
use Rattle.cps_ir.specs.declared.atom.Wanted.{Wanted as Wish}
use Rattle.cps_ir.specs.declared.atom.Wanted.TheVariants as wish
use Rattle.cps_ir.specs.declared.atom.Test.{Test as Trial}
use Rattle.cps_ir.specs.declared.body.Function.{Function as Entry}
use Rattle.cps_ir.specs.declared.body.Bind.{Bind as Open}
use Rattle.cps_ir.specs.declared.body.Bind.TheVariants as given
use Rattle.cps_ir.specs.declared.body.Rule.{Rule as Chosen}
use Rattle.cps_ir.specs.declared.body.End.{End as OpenEnd}
use Rattle.cps_ir.specs.declared.body.End.TheVariants as open_end
use Rattle.cps_ir.specs.declared.body.Body.{Body as OpenBody}
use Rattle.cps_ir.specs.Program.{Cps}
use Rattle.cps_ir.specs.Kept as opened
use Rattle.closure_ir.specs.declared.operand.Operand.{Operand}
use Rattle.closure_ir.specs.declared.operand.Operand.TheVariants as operand
use Rattle.closure_ir.specs.declared.body.Maker.{Maker}
use Rattle.closure_ir.specs.Program.{Closed}
use Rattle.closure_ir.specs.Kept as kept
use Rattle.close_laws.specs.Lower.{Places, Hand, placed, operand_of, operands_of, constant_of, beyond, wanted_of, test_of, shape_of}
use Rattle.close_laws.specs.Close.{none_at_hand}
use Rattle.close_scopes.specs.declared.found.Found.{Found}
use Rattle.close_scopes.specs.declared.found.Found.TheVariants as found
use Rattle.close_scopes.specs.declared.scopes.Bound.{Bound}
use Rattle.close_scopes.specs.Scopes.{operand_at, places_of, hand_of, over}
use Rattle.close_steps.specs.declared.decisions.Decision.{Decision}
use Rattle.close_steps.specs.declared.decisions.Decisions.{Decisions}
use Rattle.close_steps.specs.Visible.{Visible, decided, class_members, static_of, unbound, places_in, hand_in}
use Rattle.close_steps.specs.Lowered.{target_by, target_of, rule_lowered, end_lowered}
use Rattle.close_groups.specs.Group.{static_bound, statics_in, kept_name, kept_in, classes_by, needs_in, missing, news_from, themselves, records_at, record_in, pointed, code_by, closure_by, closures_in, group_news, with_statics, within, behind, makers_in}
use Rattle.close_bodies.specs.Bodies.{group_bind, bind_lowered, seen_behind, binds_lowered, seen_at_end, body_lowered}
use Rattle.close_entries.specs.Entries.{fields_from, shared_from, through_records, first_field, closure_bounds, entered}
use Rattle.close_rows.specs.Rows.{begun}
use Rattle.close_seen.specs.Seen.{seen_in, put_all, enter_one, enter_all, table_behind, closed_from}

all_append : {X : Type 0} (P : X → Type 0) (xs ys : List X) → AllByRecursion P xs → AllByRecursion P ys → AllByRecursion P (xs ++ ys)
all_append P [] ys h g = g
all_append P (x ∷ xs) ys h g = (h.0, all_append P xs ys h.1 g)

all_map : {X Y : Type 0} (P : X → Type 0) (Q : Y → Type 0) (f : X → Y) → ((x : X) → P x → Q (f x)) → (xs : List X) → AllByRecursion P xs → AllByRecursion Q (map f xs)
all_map P Q f h [] a = tt
all_map P Q f h (x ∷ xs) a = (h x a.0, all_map P Q f h xs a.1)

any_map : {X Y : Type 0} (Q : Y → Type 0) (f : X → Y) → ((x : X) → Q (f x)) → (xs : List X) → AllByRecursion Q (map f xs)
any_map Q f h [] = tt
any_map Q f h (x ∷ xs) = (h x, any_map Q f h xs)

zero_int : IsInt (pos 0)
zero_int = omega arith

small_int : (n m : ℕ) → n < m → m ≤ 2 ^ 62 → IsInt (pos n)
small_int n m h l = omega (arith, h, l)

-- what the functions of a program are decided to have stands there
pub record Fine (p : Closed) (d : Decisions) (records : ℕ) : Type 0 where
  pub labels : (x : ℕ) (k : Decision) → decided d x ≡ Some k → kept.LabelKept p k.label
  pub classes : (x : ℕ) (k : Decision) → decided d x ≡ Some k → AllByRecursion (λ c. c < records) k.classes
  pub room : d.first_record + records ≤ p.variables

-- variables of the open program
abbrev pub BindBelow : ℕ → Open → Type 0
BindBelow n (given.Make x s atoms) = x < n
BindBelow n (given.Pick x i a) = x < n
BindBelow n (given.Prim x f atoms) = x < n
BindBelow n (given.Fix fs) = AllByRecursion (λ f. (f.name < n) × AllByRecursion (λ x. x < n) f.params) fs
BindBelow n (given.Handler x) = x < n
BindBelow n (given.SetHandler a) = Unit {0}

module _ (p : Closed) (q : Cps) (texts : length q.texts ≡ length p.texts) (exns : length q.exns ≡ length p.exns) (d : Decisions) (many : ℕ) (fine : Fine p d many) where
  abbrev Low : ℕ → Type 0
  Low x = x < p.variables

  abbrev FoundKept : ℕ → Found → Type 0
  FoundKept n (found.Here x) = x < p.variables
  FoundKept n (found.Field f i) = f < p.variables
  FoundKept n (found.Shared f j i) = f < p.variables
  FoundKept n (found.New k) = k < n
  FoundKept n (found.Static l) = kept.LabelKept p l

  abbrev pub BoundsKept : ℕ → List Bound → Type 0
  BoundsKept n bs = AllByRecursion (λ b. FoundKept n b.found) bs

  pub record Good (n : ℕ) (v : Visible) : Type 0 where
    pub variables : BoundsKept n v.variables
    pub records : BoundsKept n v.records

  operand_kept : (n : ℕ) (f : Found) → FoundKept n f → kept.OperandKept p n (operand_at f)
  operand_kept n (found.Here x) h = h
  operand_kept n (found.Field f i) h = h
  operand_kept n (found.Shared f j i) h = h
  operand_kept n (found.New k) h = h
  operand_kept n (found.Static l) h = h

  static_kept : (n x : ℕ) (o : Option Decision) → decided d x ≡ o → kept.OperandKept p n (static_of o)
  static_kept n x None e = zero_int
  static_kept n x (Some k) e = fine.labels x k e

  unbound_kept : (n : ℕ) (b : Bool) (x : ℕ) → kept.OperandKept p n (unbound d b x)
  unbound_kept n true x = zero_int
  unbound_kept n false x = static_kept n x (decided d x) refl

  place_kept : (n : ℕ) (at : Places) → ((x : ℕ) → kept.OperandKept p n (at x)) → (bs : List Bound) → BoundsKept n bs → (x : ℕ) → kept.OperandKept p n (places_of at bs x)
  place_kept n at h [] g x = h x
  place_kept n at h (b ∷ bs) g x = by (nat_eq x b.key) (place_kept n at h bs g.1 x)
    where
      by : (w : Bool) → kept.OperandKept p n (places_of at bs x) → kept.OperandKept p n (cond w (operand_at b.found) (places_of at bs x))
      by true r = operand_kept n b.found g.0
      by false r = r

  places_kept : (n : ℕ) (v : Visible) → Good n v → (x : ℕ) → kept.OperandKept p n (places_in d v x)
  places_kept n v g x = place_kept n (unbound d v.is_main) (unbound_kept n v.is_main) v.variables g.variables x

  hand_kept : (n : ℕ) (bs : List Bound) → BoundsKept n bs → (k : ℕ) → kept.OperandKept p n (pointed (hand_of none_at_hand bs k))
  hand_kept n [] g k = zero_int
  hand_kept n (b ∷ bs) g k = by (nat_eq k b.key) (hand_kept n bs g.1 k)
    where
      by : (w : Bool) → kept.OperandKept p n (pointed (hand_of none_at_hand bs k)) → kept.OperandKept p n (pointed (cond w (Some (operand_at b.found)) (hand_of none_at_hand bs k)))
      by true r = operand_kept n b.found g.0
      by false r = r

  -- in a larger group
  found_more : (n m : ℕ) (f : Found) → n ≤ m → FoundKept n f → FoundKept m f
  found_more n m (found.Here x) l h = h
  found_more n m (found.Field f i) l h = h
  found_more n m (found.Shared f j i) l h = h
  found_more n m (found.New k) l h = omega (arith, l, h)
  found_more n m (found.Static k) l h = h

  bounds_more : (n m : ℕ) (bs : List Bound) → n ≤ m → BoundsKept n bs → BoundsKept m bs
  bounds_more n m [] l h = tt
  bounds_more n m (b ∷ bs) l h = (found_more n m b.found l h.0, bounds_more n m bs l h.1)

  over_kept : (n : ℕ) (new old : List Bound) → BoundsKept n new → BoundsKept n old → BoundsKept n (over new old)
  over_kept n [] old h g = g
  over_kept n (b ∷ new) old h g = over_kept n new (b ∷ old) h.1 (h.0, g)

  -- ---- Atoms, tests and ends

  constant_kept : (n : ℕ) (k : Constant) → opened.ConstantKept q k → kept.OperandKept p n (constant_of k)
  constant_kept n (constant.Int z) h = h
  constant_kept n (constant.Char c) h = small_int c 256 h (omega arith)
  constant_kept n constant.Nothing h = zero_int
  constant_kept n (constant.Tag t) h = small_int t (2 ^ 20) h (omega arith)
  constant_kept n (constant.Text t) h = omega (arith, texts, h)
  constant_kept n (constant.Library e) h = tt
  constant_kept n constant.StdIn h = zero_int

  module _ (n : ℕ) (at : Places) (good : (x : ℕ) → kept.OperandKept p n (at x)) where
    atom_kept : (a : Atom) → opened.AtomKept q a → kept.OperandKept p n (operand_of at a)
    atom_kept (atom.Var x) h = good x
    atom_kept (atom.Constant k) h = constant_kept n k h

    atoms_kept : (atoms : List Atom) → opened.AtomsKept q atoms → AllByRecursion (kept.OperandKept p n) (operands_of at atoms)
    atoms_kept atoms h = all_map (opened.AtomKept q) (kept.OperandKept p n) (operand_of at) atom_kept atoms h

  beyond_kept : (o : Operand) (i : ℕ) → kept.Kept p o → kept.Kept p (beyond o i)
  beyond_kept (operand.Path x steps) i h = h
  beyond_kept (operand.New k) i h = h
  beyond_kept (operand.Static s) i h = h
  beyond_kept (operand.Code l) i h = h
  beyond_kept (operand.Literal z) i h = h

  module _ (at : Places) (good : (x : ℕ) → kept.Kept p (at x)) where
    wanted_kept : (w : Wish) → opened.WantedKept q w → kept.WantedKept p (wanted_of at w)
    wanted_kept (wish.Num z) h = h
    wanted_kept (wish.Tag t) h = h
    wanted_kept (wish.Text t) h = omega (arith, texts, h)
    wanted_kept (wish.Exn a applied) h = atom_kept 0 at good a h

    tests_kept : (ts : List Trial) → opened.TestsKept q ts → kept.TestsKept p (map (test_of at) ts)
    tests_kept [] h = tt
    tests_kept (t ∷ ts) h = (wanted_kept t.want h.0, tests_kept ts h.1)

    rules_kept : (rules : List Chosen) → AllByRecursion (λ r. opened.TestsKept q r.tests) rules → AllByRecursion (λ r. kept.TestsKept p r.tests) (map (rule_lowered at) rules)
    rules_kept [] h = tt
    rules_kept (r ∷ rules) h = (tests_kept r.tests h.0, rules_kept rules h.1)

    target_kept_by : (x : ℕ) (o : Option Decision) → decided d x ≡ o → kept.TargetKept p (target_by o)
    target_kept_by x None e = tt
    target_kept_by x (Some k) e = fine.labels x k e

    target_kept : (a : Atom) → kept.TargetKept p (target_of d a)
    target_kept (atom.Var x) = target_kept_by x (decided d x) refl
    target_kept (atom.Constant k) = tt

    end_kept : (e : OpenEnd) → opened.EndKept q e → kept.EndKept p (end_lowered d at e)
    end_kept (open_end.Equal a b truth k) h = (atom_kept 0 at good a h.0, (atom_kept 0 at good b h.1.0, (atom_kept 0 at good k h.1.1.0, tt)))
    end_kept (open_end.Call a atoms) h = (target_kept a, (atom_kept 0 at good a h.0, atoms_kept 0 at good atoms h.1))
    end_kept (open_end.Match a rules otherwise) h = (atom_kept 0 at good a h.0, rules_kept rules h.1)
    end_kept (open_end.Throw a) h = atom_kept 0 at good a h
    end_kept open_end.Halt h = tt

  shape_kept : (k : Kind) → opened.ShapeKept q k → kept.ShapeKept p (shape_of k)
  shape_kept kind.Tuple h = tt
  shape_kept (kind.Applied n) h = h
  shape_kept kind.Cell h = tt
  shape_kept (kind.ExnName x) h = omega (arith, exns, h)
  shape_kept kind.Packet h = tt

  -- ---- Groups

  abbrev Decides : ℕ → Type 0
  Decides x = (k : Decision) × (decided d x ≡ Some k)

  abbrev IsMade : ℕ → Type 0
  IsMade x = (x < p.variables) × Decides x

  abbrev NamesLow : Entry → Type 0
  NamesLow f = (f.name < p.variables) × AllByRecursion (λ x. x < p.variables) f.params

  name_made : (x : ℕ) (o : Option Decision) → decided d x ≡ o → x < p.variables → AllByRecursion IsMade (kept_name x o)
  name_made x None e l = tt
  name_made x (Some k) e l = by k.is_static
    where
      by : (b : Bool) → AllByRecursion IsMade (cond b [] (x ∷ []))
      by true = tt
      by false = ((l, (k, e)), tt)

  names_made : (fs : List Entry) → AllByRecursion NamesLow fs → AllByRecursion IsMade (kept_in d fs)
  names_made [] h = tt
  names_made (f ∷ fs) h = all_append IsMade (kept_name f.name (decided d f.name)) (kept_in d fs) (name_made f.name (decided d f.name) refl h.0.0) (names_made fs h.1)

  static_found : (n x : ℕ) (o : Option Decision) → decided d x ≡ o → BoundsKept n (static_bound x o)
  static_found n x None e = tt
  static_found n x (Some k) e = by k.is_static
    where
      by : (b : Bool) → BoundsKept n (cond b (record { key = x; found = found.Static k.label } ∷ []) [])
      by true = (fine.labels x k e, tt)
      by false = tt

  statics_found : (n : ℕ) (fs : List Entry) → BoundsKept n (statics_in d fs)
  statics_found n [] = tt
  statics_found n (f ∷ fs) =
      all_append (λ b. FoundKept n b.found) (static_bound f.name (decided d f.name)) (statics_in d fs) (static_found n f.name (decided d f.name) refl) (statics_found n fs)

  abbrev IsRecord : ℕ → Type 0
  IsRecord c = c < many

  needs_one : (x : ℕ) (o : Option Decision) → decided d x ≡ o → AllByRecursion IsRecord (classes_by o)
  needs_one x None e = tt
  needs_one x (Some k) e = fine.classes x k e

  needs_all : (xs : List ℕ) → AllByRecursion IsRecord (needs_in d xs)
  needs_all [] = tt
  needs_all (x ∷ xs) = all_append IsRecord (classes_by (decided d x)) (needs_in d xs) (needs_one x (decided d x) refl) (needs_all xs)

  missing_all : (hand : Hand) (ks : List ℕ) → AllByRecursion IsRecord ks → AllByRecursion IsRecord (missing hand ks)
  missing_all hand [] h = tt
  missing_all hand (k ∷ ks) h = by (is_some (hand k)) (missing_all hand ks h.1) (missing_all (placed hand k (Some (operand.New 0))) ks h.1)
    where
      by : (b : Bool) → AllByRecursion IsRecord (missing hand ks) → AllByRecursion IsRecord (missing (placed hand k (Some (operand.New 0))) ks) → AllByRecursion IsRecord (cond b (missing hand ks) (k ∷ missing (placed hand k (Some (operand.New 0))) ks))
      by true u v = u
      by false u v = (h.0, v)

  news_found : (m n : ℕ) (xs : List ℕ) → n + length xs ≤ m → BoundsKept m (news_from n xs)
  news_found m n [] h = tt
  news_found m n (x ∷ xs) h = (omega (arith, h), news_found m (suc n) xs (omega (arith, h)))

  selves_found : (m : ℕ) (xs : List ℕ) → AllByRecursion (λ x. x < p.variables) xs → BoundsKept m (themselves xs)
  selves_found m [] h = tt
  selves_found m (x ∷ xs) h = (h.0, selves_found m xs h.1)

  records_found : (m : ℕ) (ks : List ℕ) → AllByRecursion IsRecord ks → BoundsKept m (records_at d.first_record ks)
  records_found m [] h = tt
  records_found m (k ∷ ks) h = (let r = fine.room in let l = h.0 in omega (arith, r, l), records_found m ks h.1)

  records_made : (m : ℕ) (places : Places) → ((x : ℕ) → kept.OperandKept p m (places x)) → (ks : List ℕ) → AllByRecursion IsRecord ks → AllByRecursion (kept.MakerKept p m) (map (record_in d places) ks)
  records_made m places good [] h = tt
  records_made m places good (k ∷ ks) h =
      ((let r = fine.room in let l = h.0 in omega (arith, r, l), tt, any_map (kept.OperandKept p m) places good (class_members d k)), records_made m places good ks h.1)

  code_kept : (m x : ℕ) (k : Decision) → decided d x ≡ Some k → AllByRecursion (kept.OperandKept p m) (code_by k)
  code_kept m x k e = by k.has_code
    where
      by : (b : Bool) → AllByRecursion (kept.OperandKept p m) (cond b (operand.Code k.label ∷ []) [])
      by true = (fine.labels x k e, tt)
      by false = tt

  closure_made : (m : ℕ) (places : Places) (hand : Hand) → ((x : ℕ) → kept.OperandKept p m (places x)) → ((k : ℕ) → kept.OperandKept p m (pointed (hand k))) → (x : ℕ) (o : Option Decision) → decided d x ≡ o → x < p.variables → AllByRecursion (kept.MakerKept p m) (closure_by places hand x o)
  closure_made m places hand good at x None e l = tt
  closure_made m places hand good at x (Some k) e l = (
    (
      l,
      fine.labels x k e,
      all_append (kept.OperandKept p m) (code_by k) (map (λ c. pointed (hand c)) k.classes ++ map places k.own) (code_kept m x k e)
          (all_append (kept.OperandKept p m) (map (λ c. pointed (hand c)) k.classes) (map places k.own) (any_map (kept.OperandKept p m) (λ c. pointed (hand c)) at k.classes) (any_map (kept.OperandKept p m) places good k.own)),
    ),
    tt,
  )

  closures_made : (m : ℕ) (places : Places) (hand : Hand) → ((x : ℕ) → kept.OperandKept p m (places x)) → ((k : ℕ) → kept.OperandKept p m (pointed (hand k))) → (xs : List ℕ) → AllByRecursion IsMade xs → AllByRecursion (kept.MakerKept p m) (closures_in d places hand xs)
  closures_made m places hand good at [] h = tt
  closures_made m places hand good at (x ∷ xs) h =
      all_append (kept.MakerKept p m) (closure_by places hand x (decided d x)) (closures_in d places hand xs) (closure_made m places hand good at x (decided d x) refl h.0.0) (closures_made m places hand good at xs h.1)

  one_closure : (places : Places) (hand : Hand) (x : ℕ) (o : Option Decision) (k : Decision) → o ≡ Some k → length (closure_by places hand x o) ≡ 1
  one_closure places hand x None k e = absurd (cc)
  one_closure places hand x (Some j) k e = refl

  length_both : {X : Type 0} (xs ys : List X) → length (xs ++ ys) ≡ length xs + length ys
  length_both [] ys = omega arith
  length_both (x ∷ xs) ys = let e = length_both xs ys in omega (arith, e)

  as_many_closures : (places : Places) (hand : Hand) (xs : List ℕ) → AllByRecursion IsMade xs → length (closures_in d places hand xs) ≡ length xs
  as_many_closures places hand [] h = refl
  as_many_closures places hand (x ∷ xs) h =
      let a = length_both (closure_by places hand x (decided d x)) (closures_in d places hand xs) in
      let b = one_closure places hand x (decided d x) h.0.1.0 h.0.1.1 in
      let c = as_many_closures places hand xs h.1 in
      omega (arith, a, b, c)

  length_map : {X Y : Type 0} (f : X → Y) (xs : List X) → length (map f xs) ≡ length xs
  length_map f [] = refl
  length_map f (x ∷ xs) = ap suc (length_map f xs)

  good_more : (n m : ℕ) (v : Visible) → n ≤ m → Good n v → Good m v
  good_more n m v l g = record { variables = bounds_more n m v.variables l g.variables; records = bounds_more n m v.records l g.records }

  lows : (xs : List ℕ) → AllByRecursion IsMade xs → AllByRecursion (λ x. x < p.variables) xs
  lows [] h = tt
  lows (x ∷ xs) h = (h.0.0, lows xs h.1)

  module _ (v : Visible) (good : Good 0 v) (fs : List Entry) (low : AllByRecursion NamesLow fs) where
    abbrev names : List ℕ
    names = kept_in d fs

    abbrev news : List ℕ
    news = group_news d v fs

    abbrev size : ℕ
    size = length (makers_in d v fs)

    news_low : AllByRecursion IsRecord news
    news_low = missing_all (hand_in v) (needs_in d names) (needs_all names)

    size_is : size ≡ length news + length names
    size_is =
        let inside = within d v fs in
        let a = length_both (map (record_in d (places_in d v)) news) (closures_in d (places_in d inside) (hand_in inside) names) in
        let b = length_map (record_in d (places_in d v)) news in
        let c = as_many_closures (places_in d inside) (hand_in inside) names (names_made fs low) in
        omega (arith, a, b, c)

    statics_good : (n : ℕ) → Good n (with_statics d v fs)
    statics_good n = record {
      variables = over_kept n (statics_in d fs) v.variables (statics_found n fs) (bounds_more 0 n v.variables (omega arith) good.variables);
      records = bounds_more 0 n v.records (omega arith) good.records;
    }

    within_good : Good size (within d v fs)
    within_good = record {
      variables = over_kept size (news_from (length news) names) (with_statics d v fs).variables (news_found size (length news) names (let s = size_is in omega (arith, s))) (statics_good size).variables;
      records = over_kept size (news_from 0 news) (with_statics d v fs).records (news_found size 0 news (let s = size_is in omega (arith, s))) (statics_good size).records;
    }

    behind_good : Good 0 (behind d v fs)
    behind_good = record {
      variables = over_kept 0 (themselves names) (with_statics d v fs).variables (selves_found 0 names (lows names (names_made fs low))) (statics_good 0).variables;
      records = over_kept 0 (records_at d.first_record news) (with_statics d v fs).records (records_found 0 news news_low) (statics_good 0).records;
    }

    makers_kept : AllByRecursion (kept.MakerKept p size) (makers_in d v fs)
    makers_kept =
        let inside = within d v fs in
        all_append (kept.MakerKept p size) (map (record_in d (places_in d v)) news) (closures_in d (places_in d inside) (hand_in inside) names)
        (records_made size (places_in d v) (places_kept size v (good_more 0 size v (omega arith) good)) news news_low)
        (closures_made size (places_in d inside) (hand_in inside) (places_kept size inside within_good) (hand_kept size inside.records within_good.records) names (names_made fs low))

  -- ---- Bodies

  group_kept : (ms : List Maker) → AllByRecursion (kept.MakerKept p (length ms)) ms → AllByRecursion (kept.BindKept p) (group_bind ms)
  group_kept [] h = tt
  group_kept (m ∷ ms) h = (h, tt)

  itself_good : (v : Visible) (x : ℕ) → x < p.variables → Good 0 v → Good 0 (Rattle.close_steps.specs.Lowered.with_itself v x)
  itself_good v x l g = record { variables = (l, g.variables); records = g.records }

  bind_kept : (v : Visible) → Good 0 v → (b : Open) → opened.BindKept q b → BindBelow p.variables b → AllByRecursion (kept.BindKept p) (bind_lowered d v b)
  bind_kept v g (given.Make x s atoms) h l =
      (((l, shape_kept s h.0, atoms_kept 1 (places_in d v) (places_kept 1 v (good_more 0 1 v (omega arith) g)) atoms h.1), tt), tt)
  bind_kept v g (given.Pick x i a) h l = ((l, beyond_kept (operand_of (places_in d v) a) i (atom_kept 0 (places_in d v) (places_kept 0 v g) a h)), tt)
  bind_kept v g (given.Prim x f atoms) h l = ((l, atoms_kept 0 (places_in d v) (places_kept 0 v g) atoms h), tt)
  bind_kept v g (given.Fix fs) h l = group_kept (makers_in d v fs) (makers_kept v g fs l)
  bind_kept v g (given.Handler x) h l = (l, tt)
  bind_kept v g (given.SetHandler a) h l = (atom_kept 0 (places_in d v) (places_kept 0 v g) a h, tt)

  seen_good : (v : Visible) → Good 0 v → (b : Open) → BindBelow p.variables b → Good 0 (seen_behind d v b)
  seen_good v g (given.Make x s atoms) l = itself_good v x l g
  seen_good v g (given.Pick x i a) l = itself_good v x l g
  seen_good v g (given.Prim x f atoms) l = itself_good v x l g
  seen_good v g (given.Fix fs) l = behind_good v g fs l
  seen_good v g (given.Handler x) l = itself_good v x l g
  seen_good v g (given.SetHandler a) l = g

  binds_kept : (v : Visible) → Good 0 v → (bs : List Open) → AllByRecursion (opened.BindKept q) bs → AllByRecursion (BindBelow p.variables) bs → AllByRecursion (kept.BindKept p) (binds_lowered d v bs)
  binds_kept v g [] h l = tt
  binds_kept v g (b ∷ bs) h l =
      all_append (kept.BindKept p) (bind_lowered d v b) (binds_lowered d (seen_behind d v b) bs) (bind_kept v g b h.0 l.0) (binds_kept (seen_behind d v b) (seen_good v g b l.0) bs h.1 l.1)

  end_good : (v : Visible) → Good 0 v → (bs : List Open) → AllByRecursion (BindBelow p.variables) bs → Good 0 (seen_at_end d v bs)
  end_good v g [] l = g
  end_good v g (b ∷ bs) l = end_good (seen_behind d v b) (seen_good v g b l.0) bs l.1

  body_kept : (v : Visible) → Good 0 v → (b : OpenBody) → opened.BodyKept q b → AllByRecursion (BindBelow p.variables) b.binds → kept.BodyKept p (body_lowered d v b)
  body_kept v g b h l =
      let last = seen_at_end d v b.binds in
      (binds_kept v g b.binds h.0 l, end_kept (places_in d last) (places_kept 0 last (end_good v g b.binds l)) b.end h.1)

  -- ---- Tables

  begun_good : Good 0 begun
  begun_good = record { variables = tt; records = tt }

  at_good : (t : List Visible) → AllByRecursion (Good 0) t → (i : ℕ) → Good 0 (seen_in t i)
  at_good [] g i = begun_good
  at_good (v ∷ t) g zero = g.0
  at_good (v ∷ t) g (suc i) = at_good t g.1 i

  set_good : (t : List Visible) (i : ℕ) (v : Visible) → AllByRecursion (Good 0) t → Good 0 v → AllByRecursion (Good 0) (slice_set t i v)
  set_good [] i v g h = tt
  set_good (u ∷ t) zero v g h = (h, g.1)
  set_good (u ∷ t) (suc i) v g h = (g.0, set_good t i v g.1 h)

  put_good : (t : List Visible) (js : List ℕ) (v : Visible) → AllByRecursion (Good 0) t → Good 0 v → AllByRecursion (Good 0) (put_all t js v)
  put_good t [] v g h = g
  put_good t (j ∷ js) v g h = put_good (slice_set t j v) js v (set_good t j v g h) h

  fields_good : (f n : ℕ) (xs : List ℕ) → f < p.variables → BoundsKept 0 (fields_from f n xs)
  fields_good f n [] l = tt
  fields_good f n (x ∷ xs) l = (l, fields_good f (suc n) xs l)

  shared_good : (f j i : ℕ) (xs : List ℕ) → f < p.variables → BoundsKept 0 (shared_from f j i xs)
  shared_good f j i [] l = tt
  shared_good f j i (x ∷ xs) l = (l, shared_good f j (suc i) xs l)

  through_good : (f j : ℕ) (ks : List ℕ) → f < p.variables → BoundsKept 0 (through_records d f j ks)
  through_good f j [] l = tt
  through_good f j (k ∷ ks) l =
      all_append (λ b. FoundKept 0 b.found) (shared_from f j 0 (class_members d k)) (through_records d f (suc j) ks) (shared_good f j 0 (class_members d k) l) (through_good f (suc j) ks l)

  entered_good : (f : ℕ) (k : Decision) (params : List ℕ) → f < p.variables → AllByRecursion (λ x. x < p.variables) params → Good 0 (entered d f k params)
  entered_good f k params l h = record {
    variables =
        over_kept 0 (themselves params) (closure_bounds d f k) (selves_found 0 params h)
        (l, all_append (λ b. FoundKept 0 b.found) (fields_from f (first_field k + length k.classes) k.own) (through_records d f (first_field k) k.classes) (fields_good f (first_field k + length k.classes) k.own l) (through_good f (first_field k) k.classes l));
    records = fields_good f (first_field k) k.classes l;
  }

  one_good : (t : List Visible) (f : Entry) (o : Option Decision) → NamesLow f → AllByRecursion (Good 0) t → AllByRecursion (Good 0) (enter_one d t f o)
  one_good t f None l g = g
  one_good t f (Some k) l g = set_good t f.body (entered d f.name k f.params) g (entered_good f.name k f.params l.0 l.1)

  pub enter_good : (t : List Visible) (fs : List Entry) → AllByRecursion NamesLow fs → AllByRecursion (Good 0) t → AllByRecursion (Good 0) (enter_all d t fs)
  enter_good t [] l g = g
  enter_good t (f ∷ fs) l g = enter_good (enter_one d t f (decided d f.name)) fs l.1 (one_good t f (decided d f.name) l.0 g)

  pub none_good : (n : ℕ) → AllByRecursion (Good 0) (replicate n begun)
  none_good zero = tt
  none_good (suc n) = (begun_good, none_good n)

  pub closed_kept : (t : List Visible) (i : ℕ) (bs : List OpenBody) → AllByRecursion (Good 0) t → AllByRecursion (opened.BodyKept q) bs → AllByRecursion (λ b. AllByRecursion (BindBelow p.variables) b.binds) bs → AllByRecursion (kept.BodyKept p) (closed_from d t i bs)
  closed_kept t i [] g h l = tt
  closed_kept t i (b ∷ bs) g h l =
      let v = seen_in t i in
      let good = at_good t g i in
      (body_kept v good b h.0 l.0, closed_kept (table_behind d t i b) (suc i) bs (put_good t (opened.end_parts b.end) (seen_at_end d v b.binds) g (end_good v good b.binds l.0)) h.1 l.1)
