-- What holds of a body because it holds of what stands in it.
use Rattle.std.proofs.Common.{ℕ, zero, suc, Bool, true, false, cond, List, [], ◌∷◌, nat_eq}
use Rattle.std.specs.List.{AllByRecursion}
use Rattle.smlc_base.specs.declared.point.Point.{Point}
use Rattle.smlc_base.specs.declared.primitive.Primitive.{Primitive}
use Rattle.smlc_base.specs.declared.primitive.Primitive.TheVariants as prim
use Rattle.smlc_base.specs.declared.match_tests.Named.{Named}
use Rattle.prim_meaning.specs.Meaning.{takes_one}
use Rattle.cps_ir.specs.declared.atom.Atom.{Atom}
use Rattle.cps_ir.specs.declared.atom.Constant.{Constant}
use Rattle.cps_ir.specs.declared.atom.Constant.TheVariants as constant
use Rattle.cps_ir.specs.declared.atom.Shape.{Shape}
use Rattle.cps_ir.specs.declared.atom.Test.{Test}
use Rattle.cps_ir.specs.declared.atom.Wanted.{Wanted}
use Rattle.cps_ir.specs.declared.atom.Wanted.TheVariants as wanted
use Rattle.cps_ir.specs.Code.{Code, Make, Pick, Prim, Equal, Fix, Call, Match, Handler, SetHandler, Throw, Halt, Functions, NoFunction, Function, Rules, Otherwise, Rule, names_of}
use Rattle.cps_ir.specs.Program.{Cps}
use Rattle.cps_ir.specs.Kept.{ConstantKept, ShapeKept, WantedKept}
use Rattle.cps_ir.specs.State.{bind}
use Rattle.convert_laws.specs.Convert.{Scope, Kon, Known, Text, Way, variable, known, apply, atom_of, make, picks, bind_each, bind_names, rule_of, match_of, with_fields, fields_taken, primitive, builtin}

abbrev pub AllHave : (Atom → Type 0) → List ℕ → Type 0
AllHave A xs = AllByRecursion (λ x. A (variable x)) xs

-- what is wanted is in its range, and an exception name is an atom of those
abbrev pub WantedHas : Cps → (Atom → Type 0) → Wanted → Type 0
WantedHas q A (wanted.Exn a applied) = A a
WantedHas q A w = WantedKept q w

abbrev pub TestsHave : Cps → (Atom → Type 0) → List Test → Type 0
TestsHave q A tests = AllByRecursion (λ t. WantedHas q A t.want) tests

-- Something holds of each body, where something holds of its atoms and its bodies. Of a variable that a form binds it may be taken to hold.
pub record ByForms (q : Cps) (A : Atom → Type 0) (P : Code → Type 0) (F : Functions → Type 0) (R : Rules → Type 0) : Type 0 where
  pub constant : (k : Constant) → ConstantKept q k → A (known k)
  pub make : (x : ℕ) (s : Shape) (atoms : List Atom) (c : Code) → ShapeKept q s → AllByRecursion A atoms → (A (variable x) → P c) → P (Make x s atoms c)
  pub pick : (x i : ℕ) (a : Atom) (c : Code) → A a → (A (variable x) → P c) → P (Pick x i a c)
  pub prim : (x : ℕ) (f : Primitive) (atoms : List Atom) (c : Code) → AllByRecursion A atoms → (A (variable x) → P c) → P (Prim x f atoms c)
  pub equal : (a b : Atom) (t : Bool) (k : Atom) → A a → A b → A k → P (Equal a b t k)
  pub fix : (fs : Functions) (c : Code) → (AllHave A (names_of fs) → F fs) → (AllHave A (names_of fs) → P c) → P (Fix fs c)
  pub call : (a : Atom) (atoms : List Atom) → A a → AllByRecursion A atoms → P (Call a atoms)
  pub match : (a : Atom) (rules : Rules) → A a → R rules → P (Match a rules)
  pub handler : (x : ℕ) (c : Code) → (A (variable x) → P c) → P (Handler x c)
  pub set_handler : (a : Atom) (c : Code) → A a → P c → P (SetHandler a c)
  pub throw : (a : Atom) → A a → P (Throw a)
  pub halt : P Halt
  pub no_function : F NoFunction
  pub function : (f : ℕ) (p : Point) (params : List ℕ) (b : Code) (fs : Functions) → (AllHave A params → P b) → F fs → F (Function f p params b fs)
  pub otherwise : (c : Code) → P c → R (Otherwise c)
  pub alone : (c : Code) → R (Otherwise c) → P c
  pub rule : (ts : List Test) (c : Code) (rs : Rules) → TestsHave q A ts → P c → R rs → R (Rule ts c rs)

module _ (q : Cps) (A : Atom → Type 0) (P : Code → Type 0) (F : Functions → Type 0) (R : Rules → Type 0) (by : ByForms q A P F R) where
  abbrev pub ScopeHas : Scope → Type 0
  ScopeHas σ = (x : ℕ) → A (σ x)

  -- what is done with a value, of any atom that has it
  abbrev pub TextHas : (Atom → ℕ → Code) → Type 0
  TextHas g = (a : Atom) (m : ℕ) → A a → P (g a m)

  abbrev pub KonHas : Kon → Type 0
  KonHas (Known k) = A k
  KonHas (Text g) = TextHas g

  pub nothing : A (known constant.Nothing)
  nothing = by.constant constant.Nothing tt

  pub applies : (κ : Kon) → KonHas κ → (a : Atom) (n : ℕ) → A a → P (apply κ a n)
  applies (Known k) h a n g = by.call k (a ∷ []) h (g, tt)
  applies (Text t) h a n g = h a n g

  pub as_atom : (κ : Kon) → KonHas κ → A (atom_of κ)
  as_atom (Known k) h = h
  as_atom (Text g) h = nothing

  pub makes : (s : Shape) (atoms : List Atom) (κ : Kon) (n : ℕ) → ShapeKept q s → AllByRecursion A atoms → KonHas κ → P (make s atoms κ n)
  makes s atoms κ n r g h = by.make n s atoms (apply κ (variable n) (suc n)) r g (λ v. applies κ h (variable n) (suc n) v)

  cond_has : {B : Type 0} (Q : B → Type 0) (b : Bool) (c d : B) → Q c → Q d → Q (cond b c d)
  cond_has Q true c d h g = h
  cond_has Q false c d h g = g

  pub scope_bound : (σ : Scope) (x : ℕ) (a : Atom) → A a → ScopeHas σ → ScopeHas (bind σ x a)
  scope_bound σ x a h g y = cond_has A (nat_eq y x) a (σ y) h (g y)

  -- ---- Names

  abbrev pub WayHas : Way → Type 0
  WayHas w = AllByRecursion (λ g. A g.1) w

  picked_new : (path : List ℕ) (a : Atom) (rest : Way → Atom → ℕ → Code) (n : ℕ) → A a → ((w : Way) (b : Atom) (m : ℕ) → WayHas w → A b → P (rest w b m)) → P (picks [] path a rest n)
  picked_new [] a rest n h go = go [] a n tt h
  picked_new (i ∷ path) a rest n h go =
      by.pick n i a (picks [] path (variable n) (λ w b m. rest ((i, variable n) ∷ w) b m) (suc n)) h
      (λ v. picked_new path (variable n) (λ w b m. rest ((i, variable n) ∷ w) b m) (suc n) v (λ w b m k e. go ((i, variable n) ∷ w) b m (v, k) e))

  picked : (gone : Way) (path : List ℕ) (a : Atom) (rest : Way → Atom → ℕ → Code) (n : ℕ) → WayHas gone → A a → ((w : Way) (b : Atom) (m : ℕ) → WayHas w → A b → P (rest w b m)) → P (picks gone path a rest n)
  picked gone [] a rest n k h go = go [] a n tt h
  picked [] (i ∷ path) a rest n k h go = picked_new (i ∷ path) a rest n h go
  picked (g ∷ gone) (i ∷ path) a rest n k h go =
      cond_has P (nat_eq i g.0) (picks gone path g.1 (λ w b m. rest (g ∷ w) b m) n) (picks [] (i ∷ path) a rest n)
      (picked gone path g.1 (λ w b m. rest (g ∷ w) b m) n k.1 k.0 (λ w b m l e. go (g ∷ w) b m (k.0, l) e))
      (picked_new (i ∷ path) a rest n h go)

  named_each : (gone : Way) (names : List Named) (a : Atom) (σ : Scope) (rest : Scope → ℕ → Code) (n : ℕ) → WayHas gone → A a → ScopeHas σ → ((τ : Scope) (m : ℕ) → ScopeHas τ → P (rest τ m)) → P (bind_each gone names a σ rest n)
  named_each gone [] a σ rest n k h s go = go σ n s
  named_each gone (x ∷ names) a σ rest n k h s go =
      picked gone x.path a (λ w b m. bind_each w names a σ (λ τ l. rest (bind τ x.name.0 b) l) m) n k h
      (λ w b m l e. named_each w names a σ (λ τ l. rest (bind τ x.name.0 b) l) m l h s (λ τ o t. go (bind τ x.name.0 b) o (scope_bound τ x.name.0 b e t)))

  pub names_bound : (names : List Named) (a : Atom) (σ : Scope) (rest : Scope → ℕ → Code) (n : ℕ) → A a → ScopeHas σ → ((τ : Scope) (m : ℕ) → ScopeHas τ → P (rest τ m)) → P (bind_names names a σ rest n)
  names_bound names a σ rest n h s go = named_each [] names a σ rest n tt h s go

  -- ---- Rules

  pub on_match : (a : Atom) (rules : Rules) → A a → R rules → P (match_of a rules)
  on_match a (Otherwise c) h g = by.alone c g
  on_match a (Rule tests c rules) h g = by.match a (Rule tests c rules) h g

  pub rule_has : (ts : List Test) (c : Code) (rs : Rules) → TestsHave q A ts → P c → R rs → R (rule_of ts c rs)
  rule_has [] c rs t h g = by.otherwise c h
  rule_has (t ∷ ts) c rs k h g = by.rule (t ∷ ts) c rs k h g

  -- ---- Primitives

  fields_have : (k i : ℕ) (a : Atom) (rest : List Atom → ℕ → Code) (n : ℕ) → A a → ((fs : List Atom) (m : ℕ) → AllByRecursion A fs → P (rest fs m)) → P (with_fields k i a rest n)
  fields_have zero i a rest n h go = go [] n tt
  fields_have (suc k) i a rest n h go =
      by.pick n i a (with_fields k (suc i) a (λ fs m. rest (variable n ∷ fs) m) (suc n)) h
      (λ v. fields_have k (suc i) a (λ fs m. rest (variable n ∷ fs) m) (suc n) h (λ fs m g. go (variable n ∷ fs) m (v, g)))

  plainly : (f : Primitive) (κ : Kon) → KonHas κ → (atoms : List Atom) (n : ℕ) → AllByRecursion A atoms → P (Prim n f atoms (apply κ (variable n) (suc n)))
  plainly f κ h atoms n g = by.prim n f atoms (apply κ (variable n) (suc n)) g (λ v. applies κ h (variable n) (suc n) v)

  primitive_has : (f : Primitive) (κ : Kon) → KonHas κ → (atoms : List Atom) (n : ℕ) → AllByRecursion A atoms → P (primitive f κ atoms n)
  primitive_has prim.Equal κ h [] n g = plainly prim.Equal κ h [] n g
  primitive_has prim.Equal κ h (a ∷ []) n g = plainly prim.Equal κ h (a ∷ []) n g
  primitive_has prim.Equal κ h (a ∷ b ∷ []) n g = by.equal a b true (atom_of κ) g.0 g.1.0 (as_atom κ h)
  primitive_has prim.Equal κ h (a ∷ b ∷ c ∷ atoms) n g = plainly prim.Equal κ h (a ∷ b ∷ c ∷ atoms) n g
  primitive_has prim.Unequal κ h [] n g = plainly prim.Unequal κ h [] n g
  primitive_has prim.Unequal κ h (a ∷ []) n g = plainly prim.Unequal κ h (a ∷ []) n g
  primitive_has prim.Unequal κ h (a ∷ b ∷ []) n g = by.equal a b false (atom_of κ) g.0 g.1.0 (as_atom κ h)
  primitive_has prim.Unequal κ h (a ∷ b ∷ c ∷ atoms) n g = plainly prim.Unequal κ h (a ∷ b ∷ c ∷ atoms) n g
  primitive_has prim.Plus κ h atoms n g = plainly prim.Plus κ h atoms n g
  primitive_has prim.Minus κ h atoms n g = plainly prim.Minus κ h atoms n g
  primitive_has prim.Times κ h atoms n g = plainly prim.Times κ h atoms n g
  primitive_has prim.Quotient κ h atoms n g = plainly prim.Quotient κ h atoms n g
  primitive_has prim.Modulo κ h atoms n g = plainly prim.Modulo κ h atoms n g
  primitive_has prim.Negate κ h atoms n g = plainly prim.Negate κ h atoms n g
  primitive_has prim.Abs κ h atoms n g = plainly prim.Abs κ h atoms n g
  primitive_has prim.Less κ h atoms n g = plainly prim.Less κ h atoms n g
  primitive_has prim.Greater κ h atoms n g = plainly prim.Greater κ h atoms n g
  primitive_has prim.AtMost κ h atoms n g = plainly prim.AtMost κ h atoms n g
  primitive_has prim.AtLeast κ h atoms n g = plainly prim.AtLeast κ h atoms n g
  primitive_has prim.Deref κ h atoms n g = plainly prim.Deref κ h atoms n g
  primitive_has prim.Assign κ h atoms n g = plainly prim.Assign κ h atoms n g
  primitive_has prim.Ord κ h atoms n g = plainly prim.Ord κ h atoms n g
  primitive_has prim.Chr κ h atoms n g = plainly prim.Chr κ h atoms n g
  primitive_has prim.Concat κ h atoms n g = plainly prim.Concat κ h atoms n g
  primitive_has prim.Size κ h atoms n g = plainly prim.Size κ h atoms n g
  primitive_has prim.Str κ h atoms n g = plainly prim.Str κ h atoms n g
  primitive_has prim.Implode κ h atoms n g = plainly prim.Implode κ h atoms n g
  primitive_has prim.Sub κ h atoms n g = plainly prim.Sub κ h atoms n g
  primitive_has prim.Substring κ h atoms n g = plainly prim.Substring κ h atoms n g
  primitive_has prim.Compare κ h atoms n g = plainly prim.Compare κ h atoms n g
  primitive_has prim.Print κ h atoms n g = plainly prim.Print κ h atoms n g
  primitive_has prim.InputLine κ h atoms n g = plainly prim.InputLine κ h atoms n g
  primitive_has prim.StdIn κ h atoms n g = plainly prim.StdIn κ h atoms n g

  pub builtin_has : (f : Primitive) (κ : Kon) → KonHas κ → TextHas (builtin f κ)
  builtin_has f κ h a n g =
      cond_has P (takes_one f) (primitive f κ (a ∷ []) n) (with_fields (fields_taken f) 0 a (primitive f κ) n) (primitive_has f κ h (a ∷ []) n (g, tt))
      (fields_have (fields_taken f) 0 a (primitive f κ) n g (λ fs m k. primitive_has f κ h fs m k))
