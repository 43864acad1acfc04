-- What goes on with a value: continuations, names, rules, primitives and constructors.
use Rattle.std.proofs.Common.{◌≡◌, ℕ, zero, suc, Bool, true, false, cond, List, [], ◌∷◌, Option, Some, None, nat_eq, refl, ◌∙◌}
use Rattle.std.specs.Prelude.{filter_map}
use Rattle.std.specs.List.{AllByRecursion}
use Rattle.smlc_base.specs.declared.point.Point.{Point}
use Rattle.smlc_base.specs.declared.exception.LibraryExn.{LibraryExn}
use Rattle.smlc_base.specs.declared.match_tests.Want.{Want}
use Rattle.smlc_base.specs.declared.match_tests.Want.TheVariants as want
use Rattle.smlc_base.specs.declared.match_tests.Named.{Named}
use Rattle.smlc_base.specs.declared.match_tests.Test.{Test as LambdaTest}
use Rattle.smlc_base.specs.declared.primitive.Primitive.{Primitive}
use Rattle.smlc_base.specs.declared.primitive.Primitive.TheVariants as prim
use Rattle.sml_tree.specs.declared.bare.Con.{Con}
use Rattle.sml_tree.specs.declared.bare.Con.TheVariants as con
use Rattle.sml_tree.specs.Free.{exception_of}
use Rattle.sml_tree.specs.Sets.{has, union, without}
use Rattle.sml_tree.proofs.Members.{IsWithin, within_left, within_right, within_both, within_rest, without_parts, has-union}
use Rattle.prim_meaning.specs.Meaning.{takes_one}
use Rattle.lambda_ir.specs.declared.term.Part.{Part}
use Rattle.lambda_ir.specs.Free.{exn_wanted, free_tests, bound_names}
use Rattle.cps_ir.specs.declared.atom.Atom.{Atom}
use Rattle.cps_ir.specs.declared.atom.Constant.TheVariants as constant
use Rattle.cps_ir.specs.declared.atom.Shape.{Shape}
use Rattle.cps_ir.specs.declared.atom.Shape.TheVariants as shape
use Rattle.cps_ir.specs.declared.atom.Test.{Test}
use Rattle.cps_ir.specs.Code.{Code, Prim, Equal, Rules, Otherwise, Rule}
use Rattle.cps_ir.specs.Free.{vars_wanted, vars_tests}
use Rattle.cps_ir.specs.State.{bind}
use Rattle.convert_laws.specs.Convert.{Scope, Kon, Known, Text, Way, variable, known, con_atom, builtin_atom, apply, atom_of, make, picks, bind_each, bind_names, wanted_of, tests_of, rule_of, match_of, raise_exn, with_fields, fields_taken, primitive, builtin, constructor, item_of}
use Rattle.convert_held.proofs.Lists.{none_in, head_in, tail_in, one_in, IsIn, AreIn, Covers, covers_more, neither}
use Rattle.convert_held.proofs.Fits.{Fits, RulesFit, make_fits, pick_fits, prim_fits, equal_fits, call_fits, match_fits, throw_fits, otherwise_fits, alone_fits, rule_fits}

-- a variable that stands there
pub var_in : (x : ℕ) (zs : List ℕ) → has zs x ≡ true → IsIn zs (variable x)
var_in x zs e = one_in x zs e

pub new_in : (x : ℕ) (zs : List ℕ) → IsIn (x ∷ zs) (variable x)
new_in x zs = one_in x (x ∷ zs) (head_in x zs)

-- ---- Scopes

pub con_in : (zs : List ℕ) (σ : Scope) (c : Con) → Covers zs σ (exception_of c) → IsIn zs (con_atom σ c)
con_in zs σ (con.Data t number takes) h = none_in zs
con_in zs σ con.Ref h = none_in zs
con_in zs σ (con.Exn x takes) h = h x.0 (head_in x.0 [])
con_in zs σ (con.Library e) h = none_in zs

pub builtin_in : (zs : List ℕ) (f : Primitive) → IsIn zs (builtin_atom f)
builtin_in zs prim.StdIn = none_in zs
builtin_in zs _ = none_in zs

wanted_in : (zs : List ℕ) (σ : Scope) (w : Want) → Covers zs σ (exn_wanted w) → IsWithin (vars_wanted (wanted_of σ w)) zs
wanted_in zs σ (want.Num n) h = none_in zs
wanted_in zs σ (want.Tag t) h = none_in zs
wanted_in zs σ (want.Text t) h = none_in zs
wanted_in zs σ (want.Exn x applied) h = h x.0 (head_in x.0 [])
wanted_in zs σ (want.Library e applied) h = none_in zs

pub tests_in : (zs : List ℕ) (σ : Scope) (ts : List LambdaTest) → Covers zs σ (free_tests ts) → IsWithin (vars_tests (tests_of σ ts)) zs
tests_in zs σ [] h = none_in zs
tests_in zs σ (t ∷ ts) h =
    within_both (vars_wanted (wanted_of σ t.want)) (vars_tests (tests_of σ ts)) zs
    (wanted_in zs σ t.want (λ x e. h x (within_left (exn_wanted t.want) (free_tests ts) x e)))
    (tests_in zs σ ts (λ x e. h x (within_right (exn_wanted t.want) (free_tests ts) x e)))

-- with one name more
pub bound_covers : (zs : List ℕ) (σ : Scope) (y : ℕ) (a : Atom) (xs : List ℕ) → IsIn zs a → Covers zs σ (without xs (y ∷ [])) → Covers zs (bind σ y a) xs
bound_covers zs σ y a xs h g x e = go (nat_eq x y) refl
  where
    go : (b : Bool) → nat_eq x y ≡ b → IsIn zs (cond b a (σ x))
    go true s = h
    go false s = g x (within_rest xs (y ∷ []) x e (neither (nat_eq x y) false s refl))

-- what is left of names, one behind the other
pub less_covers : (zs : List ℕ) (σ : Scope) (xs gone more : List ℕ) → Covers zs σ (without xs (union gone more)) → Covers zs σ (without (without xs gone) more)
less_covers zs σ xs gone more h x e =
    let outer = without_parts (without xs gone) more x e in
    let inner = without_parts xs gone x outer.0 in
    h x (within_rest xs (union gone more) x inner.0 (has-union gone more x ∙ neither (has gone x) (has more x) inner.1 outer.1))

-- ---- Slots of tuples

abbrev IfItem : List ℕ → Option Atom → Type 0
IfItem zs None = Unit {0}
IfItem zs (Some a) = IsIn zs a

pub item_in : (zs : List ℕ) (parts : List Part) (xs : List Atom) (s : ℕ) → AreIn zs xs → IfItem zs (item_of parts xs s)
item_in zs [] xs s h = tt
item_in zs (q ∷ parts) [] s h = tt
item_in zs (q ∷ parts) (x ∷ xs) s h = by (nat_eq s q.slot) (item_in zs parts xs s h.1)
  where
    by : (b : Bool) → IfItem zs (item_of parts xs s) → IfItem zs (cond b (Some x) (item_of parts xs s))
    by true g = h.0
    by false g = g

pub items_in : (zs : List ℕ) (f : ℕ → Option Atom) (ns : List ℕ) → ((n : ℕ) → IfItem zs (f n)) → AreIn zs (filter_map f ns)
items_in zs f [] h = tt
items_in zs f (n ∷ ns) h = by (f n) refl (h n) (items_in zs f ns h)
  where
    by : (o : Option Atom) → f n ≡ o → IfItem zs o → AreIn zs (filter_map f ns) → AreIn zs (filter_map f (n ∷ ns))
    by None e g k = rw e k
    by (Some a) e g k = rw e (g, k)

module _ (May : Point → ℕ → Type 0) where
  -- text that reads these variables, and the value
  abbrev pub Reads : List ℕ → (Atom → ℕ → Code) → Type 0
  Reads xs g = (zs : List ℕ) (a : Atom) (m : ℕ) → IsWithin xs zs → IsIn zs a → Fits May zs (g a m)

  abbrev pub KonReads : List ℕ → Kon → Type 0
  KonReads xs (Known k) = IsIn xs k
  KonReads xs (Text g) = Reads xs g

  pub applied : (κ : Kon) (xs : List ℕ) → KonReads xs κ → Reads xs (apply κ)
  applied (Known k) xs h zs a m f g = call_fits May zs k (a ∷ []) (λ z e. f z (h z e)) (g, tt)
  applied (Text t) xs h zs a m f g = h zs a m f g

  pub as_atom : (κ : Kon) (xs zs : List ℕ) → KonReads xs κ → IsWithin xs zs → IsIn zs (atom_of κ)
  as_atom (Known k) xs zs h f = λ z e. f z (h z e)
  as_atom (Text g) xs zs h f = none_in zs

  pub made : (s : Shape) (atoms : List Atom) (κ : Kon) (xs zs : List ℕ) (n : ℕ) → AreIn zs atoms → KonReads xs κ → IsWithin xs zs → Fits May zs (make s atoms κ n)
  made s atoms κ xs zs n h k f =
      make_fits May zs n s atoms (apply κ (variable n) (suc n)) h (applied κ xs k (n ∷ zs) (variable n) (suc n) (λ z e. tail_in n zs z (f z e)) (new_in n zs))

  pub raised : (e : LibraryExn) (zs : List ℕ) → Fits May zs (raise_exn e)
  raised e zs = throw_fits May zs (known (constant.Library e)) (none_in zs)

  cond_fits : (zs : List ℕ) (b : Bool) (c d : Code) → Fits May zs c → Fits May zs d → Fits May zs (cond b c d)
  cond_fits zs true c d h g = h
  cond_fits zs false c d h g = g

  -- ---- Names

  abbrev WayIn : List ℕ → Way → Type 0
  WayIn zs w = AllByRecursion (λ g. IsIn zs g.1) w

  picked_new : (path : List ℕ) (a : Atom) (rest : Way → Atom → ℕ → Code) (n : ℕ) (zs : List ℕ) → IsIn zs a → ((ws : List ℕ) (w : Way) (b : Atom) (m : ℕ) → IsWithin zs ws → WayIn ws w → IsIn ws b → Fits May ws (rest w b m)) → Fits May zs (picks [] path a rest n)
  picked_new [] a rest n zs h go = go zs [] a n (λ z e. e) tt h
  picked_new (i ∷ path) a rest n zs h go =
      pick_fits May zs n i a (picks [] path (variable n) (λ w b m. rest ((i, variable n) ∷ w) b m) (suc n)) h
      (picked_new path (variable n) (λ w b m. rest ((i, variable n) ∷ w) b m) (suc n) (n ∷ zs) (new_in n zs)
      (λ ws w b m f k g. go ws ((i, variable n) ∷ w) b m (λ z e. f z (tail_in n zs z e)) (var_in n ws (f n (head_in n zs)), k) g))

  picked : (gone : Way) (path : List ℕ) (a : Atom) (rest : Way → Atom → ℕ → Code) (n : ℕ) (zs : List ℕ) → WayIn zs gone → IsIn zs a → ((ws : List ℕ) (w : Way) (b : Atom) (m : ℕ) → IsWithin zs ws → WayIn ws w → IsIn ws b → Fits May ws (rest w b m)) → Fits May zs (picks gone path a rest n)
  picked gone [] a rest n zs k h go = go zs [] a n (λ z e. e) tt h
  picked [] (i ∷ path) a rest n zs k h go = picked_new (i ∷ path) a rest n zs h go
  picked (g ∷ gone) (i ∷ path) a rest n zs k h go =
      cond_fits zs (nat_eq i g.0) (picks gone path g.1 (λ w b m. rest (g ∷ w) b m) n) (picks [] (i ∷ path) a rest n)
      (picked gone path g.1 (λ w b m. rest (g ∷ w) b m) n zs k.1 k.0 (λ ws w b m f l e. go ws (g ∷ w) b m f ((λ z d. f z (k.0 z d)), l) e))
      (picked_new (i ∷ path) a rest n zs h go)

  named_each : (gone : Way) (names : List Named) (a : Atom) (σ : Scope) (rest : Scope → ℕ → Code) (n : ℕ) (zs xs : List ℕ) → WayIn zs gone → IsIn zs a → Covers zs σ (without xs (bound_names names)) → ((ws : List ℕ) (τ : Scope) (m : ℕ) → IsWithin zs ws → Covers ws τ xs → Fits May ws (rest τ m)) → Fits May zs (bind_each gone names a σ rest n)
  named_each gone [] a σ rest n zs xs k h s go = go zs σ n (λ z e. e) (λ x e. s x (within_rest xs [] x e refl))
  named_each gone (x ∷ names) a σ rest n zs xs k h s go =
      picked gone x.path a (λ w b m. bind_each w names a σ (λ τ l. rest (bind τ x.name.0 b) l) m) n zs k h
      (λ ws w b m f l e. named_each w names a σ (λ τ o. rest (bind τ x.name.0 b) o) m ws (without xs (x.name.0 ∷ [])) l (λ z d. f z (h z d))
      (covers_more zs ws σ (without (without xs (x.name.0 ∷ [])) (bound_names names)) f (less_covers zs σ xs (x.name.0 ∷ []) (bound_names names) s))
      (λ us τ o u t. go us (bind τ x.name.0 b) o (λ z d. u z (f z d)) (bound_covers us τ x.name.0 b xs (λ z d. u z (e z d)) t)))

  -- the names of a rule, in a scope that has the others
  pub named : (names : List Named) (a : Atom) (σ : Scope) (rest : Scope → ℕ → Code) (n : ℕ) (zs xs : List ℕ) → IsIn zs a → Covers zs σ (without xs (bound_names names)) → ((ws : List ℕ) (τ : Scope) (m : ℕ) → IsWithin zs ws → Covers ws τ xs → Fits May ws (rest τ m)) → Fits May zs (bind_names names a σ rest n)
  named names a σ rest n zs xs h s go = named_each [] names a σ rest n zs xs tt h s go

  -- ---- Rules

  pub on_match : (zs : List ℕ) (a : Atom) (rules : Rules) → IsIn zs a → RulesFit May zs rules → Fits May zs (match_of a rules)
  on_match zs a (Otherwise c) h g = alone_fits May zs c g
  on_match zs a (Rule tests c rules) h g = match_fits May zs a (Rule tests c rules) h g

  pub one_rule : (zs : List ℕ) (ts : List Test) (c : Code) (rules : Rules) → IsWithin (vars_tests ts) zs → Fits May zs c → RulesFit May zs rules → RulesFit May zs (rule_of ts c rules)
  one_rule zs [] c rules t h g = otherwise_fits May zs c h
  one_rule zs (t ∷ ts) c rules k h g = rule_fits May zs (t ∷ ts) c rules k h g

  -- ---- Primitives

  fields_fit : (k i : ℕ) (a : Atom) (rest : List Atom → ℕ → Code) (n : ℕ) (zs : List ℕ) → IsIn zs a → ((ws : List ℕ) (fs : List Atom) (m : ℕ) → IsWithin zs ws → AreIn ws fs → Fits May ws (rest fs m)) → Fits May zs (with_fields k i a rest n)
  fields_fit zero i a rest n zs h go = go zs [] n (λ z e. e) tt
  fields_fit (suc k) i a rest n zs h go =
      pick_fits May zs n i a (with_fields k (suc i) a (λ fs m. rest (variable n ∷ fs) m) (suc n)) h
      (fields_fit k (suc i) a (λ fs m. rest (variable n ∷ fs) m) (suc n) (n ∷ zs) (λ z e. tail_in n zs z (h z e))
      (λ ws fs m f g. go ws (variable n ∷ fs) m (λ z e. f z (tail_in n zs z e)) (var_in n ws (f n (head_in n zs)), g)))

  module _ (κ : Kon) (xs : List ℕ) (k : KonReads xs κ) (zs : List ℕ) (f : IsWithin xs zs) where
    plainly : (p : Primitive) (atoms : List Atom) (n : ℕ) → AreIn zs atoms → Fits May zs (Prim n p atoms (apply κ (variable n) (suc n)))
    plainly p atoms n g =
        prim_fits May zs n p atoms (apply κ (variable n) (suc n)) g (applied κ xs k (n ∷ zs) (variable n) (suc n) (λ z e. tail_in n zs z (f z e)) (new_in n zs))

    compared : (a b : Atom) (t : Bool) → AreIn zs (a ∷ b ∷ []) → Fits May zs (Equal a b t (atom_of κ))
    compared a b t g = equal_fits May zs a b t (atom_of κ) (g.0, (g.1.0, (as_atom κ xs zs k f, tt)))

    primitive_fits : (p : Primitive) (atoms : List Atom) (n : ℕ) → AreIn zs atoms → Fits May zs (primitive p κ atoms n)
    primitive_fits prim.Equal [] n g = plainly prim.Equal [] n g
    primitive_fits prim.Equal (a ∷ []) n g = plainly prim.Equal (a ∷ []) n g
    primitive_fits prim.Equal (a ∷ b ∷ []) n g = compared a b true g
    primitive_fits prim.Equal (a ∷ b ∷ c ∷ atoms) n g = plainly prim.Equal (a ∷ b ∷ c ∷ atoms) n g
    primitive_fits prim.Unequal [] n g = plainly prim.Unequal [] n g
    primitive_fits prim.Unequal (a ∷ []) n g = plainly prim.Unequal (a ∷ []) n g
    primitive_fits prim.Unequal (a ∷ b ∷ []) n g = compared a b false g
    primitive_fits prim.Unequal (a ∷ b ∷ c ∷ atoms) n g = plainly prim.Unequal (a ∷ b ∷ c ∷ atoms) n g
    primitive_fits prim.Plus atoms n g = plainly prim.Plus atoms n g
    primitive_fits prim.Minus atoms n g = plainly prim.Minus atoms n g
    primitive_fits prim.Times atoms n g = plainly prim.Times atoms n g
    primitive_fits prim.Quotient atoms n g = plainly prim.Quotient atoms n g
    primitive_fits prim.Modulo atoms n g = plainly prim.Modulo atoms n g
    primitive_fits prim.Negate atoms n g = plainly prim.Negate atoms n g
    primitive_fits prim.Abs atoms n g = plainly prim.Abs atoms n g
    primitive_fits prim.Less atoms n g = plainly prim.Less atoms n g
    primitive_fits prim.Greater atoms n g = plainly prim.Greater atoms n g
    primitive_fits prim.AtMost atoms n g = plainly prim.AtMost atoms n g
    primitive_fits prim.AtLeast atoms n g = plainly prim.AtLeast atoms n g
    primitive_fits prim.Deref atoms n g = plainly prim.Deref atoms n g
    primitive_fits prim.Assign atoms n g = plainly prim.Assign atoms n g
    primitive_fits prim.Ord atoms n g = plainly prim.Ord atoms n g
    primitive_fits prim.Chr atoms n g = plainly prim.Chr atoms n g
    primitive_fits prim.Concat atoms n g = plainly prim.Concat atoms n g
    primitive_fits prim.Size atoms n g = plainly prim.Size atoms n g
    primitive_fits prim.Str atoms n g = plainly prim.Str atoms n g
    primitive_fits prim.Implode atoms n g = plainly prim.Implode atoms n g
    primitive_fits prim.Sub atoms n g = plainly prim.Sub atoms n g
    primitive_fits prim.Substring atoms n g = plainly prim.Substring atoms n g
    primitive_fits prim.Compare atoms n g = plainly prim.Compare atoms n g
    primitive_fits prim.Print atoms n g = plainly prim.Print atoms n g
    primitive_fits prim.InputLine atoms n g = plainly prim.InputLine atoms n g
    primitive_fits prim.StdIn atoms n g = plainly prim.StdIn atoms n g

  pub builtin_reads : (p : Primitive) (κ : Kon) (xs : List ℕ) → KonReads xs κ → Reads xs (builtin p κ)
  builtin_reads p κ xs k zs a n f g =
      cond_fits zs (takes_one p) (primitive p κ (a ∷ []) n) (with_fields (fields_taken p) 0 a (primitive p κ) n) (primitive_fits κ xs k zs f p (a ∷ []) n (g, tt))
      (fields_fit (fields_taken p) 0 a (primitive p κ) n zs g (λ ws fs m u h. primitive_fits κ xs k ws (λ z e. u z (f z e)) p fs m h))

  pub constructor_fits : (σ : Scope) (c : Con) (κ : Kon) (xs zs : List ℕ) (a : Atom) (n : ℕ) → KonReads xs κ → IsWithin xs zs → IsIn zs (con_atom σ c) → IsIn zs a → Fits May zs (constructor σ c κ a n)
  constructor_fits σ (con.Data t number takes) κ xs zs a n k f h g = made (shape.Applied number) (a ∷ []) κ xs zs n (g, tt) k f
  constructor_fits σ con.Ref κ xs zs a n k f h g = made shape.Cell (a ∷ []) κ xs zs n (g, tt) k f
  constructor_fits σ (con.Exn x takes) κ xs zs a n k f h g = made shape.Packet (σ x.0 ∷ a ∷ []) κ xs zs n (h, (g, tt)) k f
  constructor_fits σ (con.Library e) κ xs zs a n k f h g =
      made shape.Packet (known (constant.Library e) ∷ a ∷ []) κ xs zs n (h, (g, tt)) k f
