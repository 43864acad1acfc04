-- Related states, and what is owed of primitives, tests and comparisons.
use Rattle.std.proofs.Common.{◌≡◌, ◌≢◌, ℕ, ℤ, zero, suc, ◌<◌, ◌≤◌, List, [], ◌∷◌, map, length, Option, Some, None, slice_get, Bool, true, false, refl}
use Rattle.smlc_base.specs.declared.point.Point.{Point}
use Rattle.smlc_base.specs.declared.primitive.Primitive.{Primitive}
use Rattle.simulation.specs.Machines.{Machine}
use Rattle.simulation.specs.Stores.{machine_of}
use Rattle.simulation.proofs.Machines.{Unseen}
use Rattle.simulation.proofs.Forward.{Answer}
use Rattle.sml_def.specs.State.{Value, Cell, Address, Ending}
use Rattle.prim_meaning.specs.Meaning.{Outcome, meaning}
use Rattle.prim_meaning.specs.Meaning as mean
use Rattle.prim_meaning.specs.Data as dat
use Rattle.prim_meaning.specs.Alike.{SameOutcome}
use Rattle.sml_def.specs.Builtin.{see}
use Rattle.lambda_ir.specs.Free.{is_comparison}
use Rattle.cps_ir.specs.declared.atom.Atom.{Atom}
use Rattle.cps_ir.specs.declared.atom.Atom.TheVariants as atom
use Rattle.cps_ir.specs.Code.{Code, Equal, Call, Rules, Tree}
use Rattle.cps_ir.specs.State.{Vars, value, values, Piece, Plain, data_of, Doing, Run, Enter, Raising, Compare, Ended, Facing}
use Rattle.cps_ir.specs.Tests.{taken as taken_by}
use Rattle.cps_ir.specs.Run.{cps_machine, CpsState}
use Rattle.contract_laws.specs.Contract.{Body, Scope, AtomAt, called, Contracts, RulesContract, is_pure}
use Rattle.contract_laws.proofs.Relation.{World, world, Val, depth, Vals, AllHold, ValOption, IsBody, Env, Heap}
use Rattle.contract_laws.proofs.Seeing.{IsCells}

abbrev pub conf : Doing → List ℕ → List ℕ → List Piece → CpsState
conf d input out st = record { control = record { doing = d; input = input }; out = out; store = st }

-- The number bounds how many steps the argument does alone.
pub data Related (T : List (List ℕ)) (L : List Point) : ℕ → CpsState → CpsState → Type 0 where
  running : (w : ℕ) (S : Scope) (c d : Code) (env env' : Vars) (h h' : Value) (input out : List ℕ) (st ps : List Piece) (f : ℕ → ℕ) → Heap T L f st ps → Env L (world f st ps env' S.ns) S env → Val L f st (length ps) h h' → Contracts T L w S c d → Related T L w (conf (Run c env h) input out st) (conf (Run d env' h') input out ps)
  entering : (w : ℕ) (u u' : Value) (vs vs' : List Value) (h h' : Value) (input out : List ℕ) (st ps : List Piece) (f : ℕ → ℕ) → Heap T L f st ps → (p : Val L f st (length ps) u u') → Vals L f st (length ps) vs vs' → Val L f st (length ps) h h' → depth p ≤ w → Related T L w (conf (Enter u vs h) input out st) (conf (Enter u' vs' h') input out ps)
  passing : (w x : ℕ) (us : List Atom) (e : Vars) (u u' : Value) (vs vs' : List Value) (h h' : Value) (input out : List ℕ) (st ps : List Piece) (f : ℕ → ℕ) → Heap T L f st ps → (p : Val L f st (length ps) u u') → Vals L f st (length ps) vs vs' → Val L f st (length ps) h h' → e x ≡ u → values e us ≡ vs → depth p ≤ w → Related T L (suc w) (conf (Run (Call (atom.Var x) us) e h) input out st) (conf (Enter u' vs' h') input out ps)
  inlining : (w : ℕ) (S : Scope) (b : Body) (u : Value) (vs : List Value) (bs : List Atom) (d : Code) (env env' : Vars) (h h' : Value) (input out : List ℕ) (st ps : List Piece) (f : ℕ → ℕ) → Heap T L f st ps → Env L (world f st ps env' S.ns) S env → IsBody L (world f st ps env' S.ns) u b → AllHold L (world f st ps env' S.ns) vs bs → Val L f st (length ps) h h' → Contracts T L w (called S b bs) b.code d → Related T L (suc w) (conf (Enter u vs h) input out st) (conf (Run d env' h') input out ps)
  raising : (w : ℕ) (x x' h h' : Value) (input out : List ℕ) (st ps : List Piece) (f : ℕ → ℕ) → Heap T L f st ps → Val L f st (length ps) x x' → (p : Val L f st (length ps) h h') → depth p ≤ w → Related T L w (conf (Raising x h) input out st) (conf (Raising x' h') input out ps)
  -- the handler is a function that only calls another, which the answer calls as its handler
  late : (w : ℕ) (u x x' h h' : Value) (input out : List ℕ) (st ps : List Piece) (f : ℕ → ℕ) → Heap T L f st ps → Val L f st (length ps) x x' → (p : Val L f st (length ps) u h') → Val L f st (length ps) h h' → depth p ≤ w → Related T L w (conf (Enter u (x ∷ []) h) input out st) (conf (Raising x' h') input out ps)
  late_passing : (w y : ℕ) (us : List Atom) (e : Vars) (u x x' h h' : Value) (input out : List ℕ) (st ps : List Piece) (f : ℕ → ℕ) → Heap T L f st ps → Val L f st (length ps) x x' → (p : Val L f st (length ps) u h') → Val L f st (length ps) h h' → e y ≡ u → values e us ≡ x ∷ [] → depth p ≤ w → Related T L (suc w) (conf (Run (Call (atom.Var y) us) e h) input out st) (conf (Raising x' h') input out ps)
  comparing : (m n : Option Address) (t : Bool) (k k' h h' : Value) (input out : List ℕ) (st ps : List Piece) (f : ℕ → ℕ) → Heap T L f st ps → ValOption f (length ps) m n → Val L f st (length ps) k k' → Val L f st (length ps) h h' → Related T L 0 (conf (Compare m t k h) input out st) (conf (Compare n t k' h') input out ps)
  ended : (e : Ending) (input out : List ℕ) (st ps : List Piece) (f : ℕ → ℕ) → Heap T L f st ps → Related T L 0 (conf (Ended e) input out st) (conf (Ended e) input out ps)

-- a value or a new string
pub data IsQuiet : Outcome Value → Type 0 where
  quiet_number : (z : ℤ) → IsQuiet (mean.Comes (dat.ANumber z))
  quiet_letter : (c : ℕ) → IsQuiet (mean.Comes (dat.ALetter c))
  quiet_tag : (n : ℕ) → IsQuiet (mean.Comes (dat.ATag n))
  quiet_text : (bytes : List ℕ) → IsQuiet (mean.Comes (dat.AString bytes))
  quiet_old : (v : Value) → IsQuiet (mean.Gives v)

-- What is owed of the meaning of primitives, apart from contraction: it respects related values, and pure ones are quiet.
pub record PrimsKeep (q : Tree) (L : List Point) : Type 0 where
  pub kept : (f : ℕ → ℕ) (st ps : List Piece) → Heap q.texts L f st ps → (input : List ℕ) (g : Primitive) (us vs : List Value) → Vals L f st (length ps) us vs → is_comparison g ≡ false → (o : Outcome Value) → meaning (see q.texts (data_of st)) (length st) input g us ≡ Some o → (r : Outcome Value) × (meaning (see q.texts (data_of ps)) (length ps) input g vs ≡ Some r) × SameOutcome (IsCells f st ps) (Val L f st (length ps)) o r
  pub quiet : (st : List Piece) (input : List ℕ) (g : Primitive) (us : List Value) → is_pure g ≡ true → (o : Outcome Value) → meaning (see q.texts (data_of st)) (length st) input g us ≡ Some o → IsQuiet o

-- What is owed of tests: the body that is taken is one that does what the other does.
pub record TestsKeep (q : Tree) (L : List Point) : Type 0 where
  pub taken : (f : ℕ → ℕ) (st ps : List Piece) → Heap q.texts L f st ps → (S : Scope) (env env' : Vars) → Env L (world f st ps env' S.ns) S env → (w : ℕ) (a b : Atom) (rs ss : Rules) → AtomAt S.σ a b → RulesContract q.texts L w S b rs ss → (c : Code) → taken_by q.texts env (data_of st) (value env a) rs ≡ Some c → (d : Code) × (taken_by q.texts env' (data_of ps) (value env' b) ss ≡ Some d) × Contracts q.texts L w S c d

abbrev pub machine : Tree → Machine CpsState
machine q = machine_of (cps_machine q)

abbrev pub Answered : Tree → List Point → ℕ → CpsState → CpsState → CpsState → Type 0
Answered q L w s s' t = Answer false (machine q) (machine q) L (Unseen (machine q) L) (λ v u. Related q.texts L v s' u) w s t

-- What is owed of comparisons: that they begin and go on is answered.
pub record EqualsKeep (q : Tree) (L : List Point) : Type 0 where
  pub begins : (w : ℕ) (S : Scope) (a a' b b' k k' : Atom) (t : Bool) (env env' : Vars) (h h' : Value) (input out : List ℕ) (st ps : List Piece) (f : ℕ → ℕ) (s' : CpsState) → Heap q.texts L f st ps → Env L (world f st ps env' S.ns) S env → Val L f st (length ps) h h' → AtomAt S.σ a a' → AtomAt S.σ b b' → AtomAt S.σ k k' → (machine q).step (conf (Run (Equal a b t k) env h) input out st) ≡ Some s' → Answered q L w (conf (Run (Equal a b t k) env h) input out st) s' (conf (Run (Equal a' b' t k') env' h') input out ps)
  pub goes_on : (w : ℕ) (m n : Option Address) (t : Bool) (k k' h h' : Value) (input out : List ℕ) (st ps : List Piece) (f : ℕ → ℕ) (s' : CpsState) → Heap q.texts L f st ps → ValOption f (length ps) m n → Val L f st (length ps) k k' → Val L f st (length ps) h h' → (machine q).step (conf (Compare m t k h) input out st) ≡ Some s' → Answered q L w (conf (Compare m t k h) input out st) s' (conf (Compare n t k' h') input out ps)
