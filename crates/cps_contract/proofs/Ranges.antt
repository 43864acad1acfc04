-- What a program keeps, of one with other bodies.
use Rattle.std.proofs.Common.{◌≡◌, ℕ, zero, suc, ◌+◌, ◌≤◌, ◌<◌, List, [], ◌∷◌, ◌++◌, length, map, flat_map, Some, inl, inr, ◌⊎◌, slice_get, refl, sym, ap, ◌∙◌, subst, arith, ⊎_elim, Bool, true, false}
use Rattle.std.specs.List.{AllByRecursion}
use Rattle.simulation.specs.Blocks.{IsAmong}
use Rattle.simulation.proofs.Lists.{get_below, among_append}
use Rattle.sml_tree.specs.IsBare.{IsDistinct}
use Rattle.sml_tree.specs.Sets.{has}
use Rattle.cps_ir.specs.declared.atom.Atom.{Atom}
use Rattle.cps_ir.specs.declared.atom.Atom.TheVariants as atom
use Rattle.cps_ir.specs.declared.atom.Constant.{Constant}
use Rattle.cps_ir.specs.declared.atom.Constant.TheVariants as constant
use Rattle.cps_ir.specs.declared.atom.Shape.{Shape}
use Rattle.cps_ir.specs.declared.atom.Shape.TheVariants as shape
use Rattle.cps_ir.specs.declared.atom.Wanted.{Wanted}
use Rattle.cps_ir.specs.declared.atom.Wanted.TheVariants as want
use Rattle.cps_ir.specs.declared.atom.Test.{Test}
use Rattle.cps_ir.specs.declared.body.Function.{Function as Entry}
use Rattle.cps_ir.specs.declared.body.Rule.{Rule as Chosen}
use Rattle.cps_ir.specs.declared.body.Bind.{Bind}
use Rattle.cps_ir.specs.declared.body.Bind.TheVariants as row
use Rattle.cps_ir.specs.declared.body.End.{End}
use Rattle.cps_ir.specs.declared.body.End.TheVariants as end
use Rattle.cps_ir.specs.declared.body.Body.{Body}
use Rattle.cps_ir.specs.Code.{Code, Make, Pick, Prim, Equal, Fix, Call, Match, Handler, SetHandler, Throw, Halt, Functions, NoFunction, Function, Rules, Otherwise, Rule}
use Rattle.cps_ir.specs.Free.{free_code, bound}
use Rattle.cps_ir.specs.Kept.{bind_parts, end_parts, body_parts, ConstantKept, AtomKept, ShapeKept, WantedKept, AtomsKept, TestsKept, BodyKept, IsProgram}
use Rattle.cps_ir.specs.Program.{Cps, code_at, code_of_binds, code_of_end, code_of_body, functions_of, rules_of}
use Rattle.cps_free.proofs.Unfold.{code_unfold}
use Rattle.contract_laws.proofs.Pigeon.{Distinct, pigeon}
use Rattle.contract_laws.proofs.Free.{among_in, in_among}
use Rattle.contract_round.specs.Round.{round}
use Rattle.contract_round.specs.Law.{IsWhole}
use Rattle.contract_round.proofs.RoundLaw.{round_whole}
use Rattle.contract_kept.specs.Ranges.{Below, InRange, FunctionsInRange, RulesInRange}
use Rattle.contract_kept.proofs.Keeps.{round_keeps}
use Rattle.contract_kept.proofs.Trees.{body_kept, whole_in_range}
use Rattle.contract_rows.specs.Rows.{numbers, IsOneTree}
use Rattle.contract_holds.proofs.Filled.{all_both, all_at}

-- ---- Ranges don't look at bodies

module _ (q n : Cps) (variables : n.variables ≡ q.variables) (texts : n.texts ≡ q.texts) (exns : n.exns ≡ q.exns) where
  below_same : (x : ℕ) → Below q x → Below n x
  below_same x h = subst (λ v. x < v) (sym variables) h

  constant_same : (k : Constant) → ConstantKept q k → ConstantKept n k
  constant_same (constant.Int z) h = h
  constant_same (constant.Char c) h = h
  constant_same constant.Nothing h = tt
  constant_same (constant.Tag t) h = h
  constant_same (constant.Text t) h = subst (λ ts. t < length ts) (sym texts) h
  constant_same (constant.Library e) h = tt
  constant_same constant.StdIn h = tt

  atom_same : (a : Atom) → AtomKept q a → AtomKept n a
  atom_same (atom.Var x) h = tt
  atom_same (atom.Constant k) h = constant_same k h

  atoms_same : (us : List Atom) → AtomsKept q us → AtomsKept n us
  atoms_same [] h = tt
  atoms_same (u ∷ us) h = (atom_same u h.0, atoms_same us h.1)

  shape_same : (s : Shape) → ShapeKept q s → ShapeKept n s
  shape_same (shape.Applied t) h = h
  shape_same (shape.ExnName x) h = subst (λ ts. x < length ts) (sym exns) h
  shape_same shape.Tuple h = tt
  shape_same shape.Cell h = tt
  shape_same shape.Packet h = tt

  wanted_same : (w : Wanted) → WantedKept q w → WantedKept n w
  wanted_same (want.Num z) h = h
  wanted_same (want.Tag t) h = h
  wanted_same (want.Text t) h = subst (λ ts. t < length ts) (sym texts) h
  wanted_same (want.Exn a applied) h = atom_same a h

  tests_same : (ts : List Test) → TestsKept q ts → TestsKept n ts
  tests_same [] h = tt
  tests_same (t ∷ ts) h = (wanted_same t.want h.0, tests_same ts h.1)

  params_same : (xs : List ℕ) → AllByRecursion (Below q) xs → AllByRecursion (Below n) xs
  params_same [] h = tt
  params_same (x ∷ xs) h = (below_same x h.0, params_same xs h.1)

  mutual
    pub range_same : (c : Code) → InRange q c → InRange n c
    range_same (Make x s us c) h = (below_same x h.0, shape_same s h.1, atoms_same us h.2, range_same c h.3)
    range_same (Pick x i a c) h = (below_same x h.0, atom_same a h.1, range_same c h.2)
    range_same (Prim x f us c) h = (below_same x h.0, atoms_same us h.1, range_same c h.2)
    range_same (Equal a b t k) h = atoms_same (a ∷ b ∷ k ∷ []) h
    range_same (Fix fs c) h = (functions_same fs h.0, range_same c h.1)
    range_same (Call a us) h = atoms_same (a ∷ us) h
    range_same (Match a rules) h = (atom_same a h.0, rules_same rules h.1)
    range_same (Handler x c) h = (below_same x h.0, range_same c h.1)
    range_same (SetHandler a c) h = (atom_same a h.0, range_same c h.1)
    range_same (Throw a) h = atom_same a h
    range_same Halt h = tt

    functions_same : (fs : Functions) → FunctionsInRange q fs → FunctionsInRange n fs
    functions_same NoFunction h = tt
    functions_same (Function f p params b fs) h = (below_same f h.0, params_same params h.1, range_same b h.2, functions_same fs h.3)

    rules_same : (rs : Rules) → RulesInRange q rs → RulesInRange n rs
    rules_same (Otherwise c) h = range_same c h
    rules_same (Rule ts c rs) h = (tests_same ts h.0, range_same c h.1, rules_same rs h.2)

-- ---- From a tree to those of its bodies

module _ (q : Cps) (part : ℕ → Code) where
  abbrev In_range : ℕ → Type 0
  In_range i = InRange q (part i)

  functions_parts : (fs : List Entry) → FunctionsInRange q (functions_of part fs) → AllByRecursion In_range (map (λ f. f.body) fs)
  functions_parts [] h = tt
  functions_parts (f ∷ fs) h = (h.2, functions_parts fs h.3)

  rules_parts : (rules : List Chosen) (o : ℕ) → RulesInRange q (rules_of part rules o) → AllByRecursion In_range (map (λ r. r.body) rules ++ o ∷ [])
  rules_parts [] o h = (h, tt)
  rules_parts (r ∷ rules) o h = (h.1, rules_parts rules o h.2)

  end_range : (e : End) → InRange q (code_of_end part e) → AllByRecursion In_range (end_parts e)
  end_range (end.Equal a b t k) h = tt
  end_range (end.Call a us) h = tt
  end_range (end.Match a rules o) h = rules_parts rules o h.1
  end_range (end.Throw a) h = tt
  end_range end.Halt h = tt

  binds_range : (bs : List Bind) (e : End) → InRange q (code_of_binds part bs (code_of_end part e)) → AllByRecursion In_range (flat_map bind_parts bs) × InRange q (code_of_end part e)
  binds_range [] e h = (tt, h)
  binds_range (row.Make x s us ∷ bs) e h = binds_range bs e h.3
  binds_range (row.Pick x i a ∷ bs) e h = binds_range bs e h.2
  binds_range (row.Prim x f us ∷ bs) e h = binds_range bs e h.2
  binds_range (row.Fix fs ∷ bs) e h = let k = binds_range bs e h.1 in (all_both In_range (map (λ f. f.body) fs) (flat_map bind_parts bs) (functions_parts fs h.0) k.0, k.1)
  binds_range (row.Handler x ∷ bs) e h = binds_range bs e h.1
  binds_range (row.SetHandler a ∷ bs) e h = binds_range bs e h.1

  body_range : (b : Body) → InRange q (code_of_body part (Some b)) → AllByRecursion In_range (body_parts b)
  body_range b h = let k = binds_range b.binds b.end h in all_both In_range (flat_map bind_parts b.binds) (end_parts b.end) k.0 (end_range b.end k.1)

-- ---- Each body but the first stands in another

distinct_of : (xs : List ℕ) → IsDistinct xs → Distinct xs
distinct_of [] d = tt
distinct_of (x ∷ xs) d = ((λ a. let i = among_in x xs a in let e = d.0 in cc), distinct_of xs d.1)

numbers_have : (x n k : ℕ) → n ≤ x → x < n + k → IsAmong x (numbers n k)
numbers_have x n zero l h = absurd (omega arith)
numbers_have x n (suc k) l h = ⊎_elim (λ (e : x ≡ n). inl e) (λ (m : suc n ≤ x). inr (numbers_have x (suc n) k m (omega arith))) (by x n l)
  where
    by : (x n : ℕ) → n ≤ x → (x ≡ n) ⊎ (suc n ≤ x)
    by zero zero l = inl refl
    by (suc x) zero l = inr (omega arith)
    by zero (suc n) l = absurd (omega arith)
    by (suc x) (suc n) l = ⊎_elim (λ (e : x ≡ n). inl (ap suc e)) (λ (m : suc n ≤ x). inr (omega arith)) (by x n (omega arith))

numbers_length : (n k : ℕ) → length (numbers n k) ≡ k
numbers_length n zero = refl
numbers_length n (suc k) = let h = numbers_length (suc n) k in omega arith

flat_among : (bodies : List Body) (i : ℕ) → IsAmong i (flat_map body_parts bodies) → (j : ℕ) × (b : Body) × (slice_get bodies j ≡ Some b) × IsAmong i (body_parts b)
flat_among [] i a = absurd a
flat_among (b ∷ bodies) i a = ⊎_elim (λ (l : IsAmong i (body_parts b)). (0, b, refl, l)) (λ (r : IsAmong i (flat_map body_parts bodies)). let k = flat_among bodies i r in (suc k.0, k.1, k.2, k.3)) (among_append i (body_parts b) (flat_map body_parts bodies) a)

module _ (bodies : List Body) (t : IsOneTree bodies) where
  abbrev parts : List ℕ
  parts = flat_map body_parts bodies

  part_range : (y : ℕ) → IsAmong y parts → (1 ≤ y) × (y < length bodies)
  part_range y a = let k = flat_among bodies y a in let r = all_at (λ c. (k.0 < c) × (c < length bodies)) (body_parts k.1) y (t.numbered k.0 k.1 k.2) k.3 in let r0 = r.0 in (omega arith, r.1)

  is_part : (i : ℕ) → 1 ≤ i → i < length bodies → IsAmong i parts
  is_part i l h = by (has parts i) refl
    where
      by : (b : Bool) → has parts i ≡ b → IsAmong i parts
      by true e = in_among i parts e
      by false e =
          let w = t.whole in
          let n = numbers_length 1 (length parts) in
          let p = pigeon (λ (x y : ℕ). x ≡ y) (λ x y z e g. sym e ∙ g) (i ∷ parts) (numbers 1 (length parts))
          ((λ a. let k = among_in i parts a in cc), distinct_of parts t.apart)
          (λ y a. (y, ⊎_elim (λ (q : y ≡ i). numbers_have y 1 (length parts) (omega arith) (omega arith)) (λ (q : IsAmong y parts). let r = part_range y q in let r0 = r.0 in let r1 = r.1 in numbers_have y 1 (length parts) r0 (omega arith)) a, refl)) in
          absurd (omega arith)

  pub each_in_range : (q : Cps) → InRange q (code_at bodies 0) → (k i : ℕ) → i < k → i < length bodies → InRange q (code_at bodies i)
  each_in_range q root zero i l h = absurd (omega arith)
  each_in_range q root (suc k) zero l h = root
  each_in_range q root (suc k) (suc i) l h =
      let a = flat_among bodies (suc i) (is_part (suc i) (omega arith) h) in
      let r = all_at (λ c. (a.0 < c) × (c < length bodies)) (body_parts a.1) (suc i) (t.numbered a.0 a.1 a.2) a.3 in
      let r0 = r.0 in
      let up = each_in_range q root k a.0 (omega arith) (omega arith) in
      all_at (λ c. InRange q (code_at bodies c)) (body_parts a.1) (suc i) (body_range q (code_at bodies) a.1 (subst (λ c. InRange q c) (code_unfold bodies t.numbered a.0 a.1 a.2) up)) a.3

all_get : {A : Type 0} (P : A → Type 0) (xs : List A) → ((i : ℕ) (x : A) → slice_get xs i ≡ Some x → P x) → AllByRecursion P xs
all_get P [] h = tt
all_get P (x ∷ xs) h = (h 0 x refl, all_get P xs (λ i y e. h (suc i) y e))

get_lower : (bs : List Body) (i : ℕ) (c : Body) → slice_get bs i ≡ Some c → i < length bs
get_lower [] i c e = absurd (cc)
get_lower (x ∷ bs) zero c e = omega arith
get_lower (x ∷ bs) (suc i) c e = let h = get_lower bs i c e in omega arith

-- ---- What a round answers is a program

pub program_kept : (q n : Cps) → IsProgram q → IsWhole (code_at q.bodies 0) → n.variables ≡ q.variables → n.texts ≡ q.texts → n.exns ≡ q.exns → IsOneTree n.bodies → code_at n.bodies 0 ≡ round q.texts (code_at q.bodies 0) → IsProgram n
program_kept q n p w variables texts exns t is =
    let whole = round_whole q.texts (code_at q.bodies 0) w in
    let range : InRange n (code_at n.bodies 0) = subst (λ c. InRange n c) (sym is) (round_keeps n q.texts (code_at q.bodies 0) (range_same q n variables texts exns (code_at q.bodies 0) (whole_in_range q p))) in
    let each = λ (i : ℕ) (b : Body) (e : slice_get n.bodies i ≡ Some b). body_kept n (code_at n.bodies) b (subst (λ c. InRange n c) (code_unfold n.bodies t.numbered i b e) (each_in_range n.bodies t n range (suc i) i (omega arith) (get_lower n.bodies i b e))) in
    let l : 0 < length n.bodies = let k = t.whole in omega arith in
    let first = get_below n.bodies 0 l in
    record {
      numbered = t.numbered;
      apart = t.apart;
      one_tree = t.whole;
      closed = ap (λ c. free_code c) is ∙ whole.closed;
      once = subst (λ c. IsDistinct (bound c)) (sym is) whole.once;
      below = let k = each 0 first.0 first.1 in subst (λ c. AllByRecursion (Below n) (bound c)) (sym (code_unfold n.bodies t.numbered 0 first.0 first.1)) k.1;
      kept = all_get (BodyKept n) n.bodies (λ i b e. let k = each i b e in k.0);
    }
