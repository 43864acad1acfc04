-- Which values come where in the runs of a tree that uses its function constants and exceptions well.
use Rattle.std.specs.Prelude.{◌≡◌, ℕ, Bool, true, false, ◌⊎◌, List, Option, Some, None, map, slice_get}
use Rattle.std.specs.List.{AllByRecursion}
use Rattle.sml_tree.specs.declared.bare.Bare.{Bare}
use Rattle.sml_tree.specs.declared.bare.Field.{Field}
use Rattle.sml_tree.specs.declared.bare.Rule.{Rule}
use Rattle.sml_tree.specs.declared.bare.Binding.{Binding}
use Rattle.sml_tree.specs.Sets.{has}
use Rattle.sml_types.specs.Tree.{Tree}
use Rattle.sml_types.specs.Library.{exn_ty, library_exn}
use Rattle.sml_types.specs.Typing.{Typing}
use Rattle.sml_def.specs.State.{Value, Tag, Builtin, Maker, RefMaker, Library, At, Env, Address, Awaits, FunctionPart, ArgumentPart, FieldPart, Subject, RightSide, RaisePart, Guarded, Block, Tuple, Applied, Cell, ExnName, Packet, Closure, Frame, Control, Eval, Ret, Apply, Raise, Eq, End}
use Rattle.sml_def.specs.Run.{State}
use Rattle.lambda_ir.specs.Free.{Operator, Computed, Constant, Exception, is_comparison}
use Rattle.lambda_ir.specs.Proper.{same_bool, is_plain}
use Rattle.sane_laws.specs.Uses.{constant_at, exceptions}
use Rattle.sane_laws.specs.Sane.{operator_of}

-- what matters of a block: the exception whose name it is, the function part that it awaits, or neither
pub data Form : Type 0 where
  AName : ℕ → Form
  AFunctionPart : ℕ → Form
  AnyOther : Form

abbrev pub form : Block → Form
form (ExnName x) = AName x
form (Frame (FunctionPart f a env) next) = AFunctionPart f
form _ = AnyOther

abbrev pub forms_of : List Block → List Form
forms_of store = map form store

module _ (p : Bare) (t : Typing) where
  abbrev pub is_exception_name : ℕ → Bool
  is_exception_name x = has (exceptions p.nodes) x

  abbrev pub IsConstantNone : ℕ → Type 0
  IsConstantNone i = constant_at p.nodes i ≡ false

  abbrev pub NoBodies : List Rule → Type 0
  NoBodies rules = AllByRecursion (λ r. IsConstantNone r.body) rules

  abbrev pub NoFields : List Field → Type 0
  NoFields fields = AllByRecursion (λ f. IsConstantNone f.node) fields

  abbrev pub NoRights : List Binding → Type 0
  NoRights bindings = AllByRecursion (λ b. IsConstantNone b.right) bindings

  module _ (forms : List Form) where
    -- ---- Values

    abbrev pub DatumForm : Option Form → Type 0
    DatumForm (Some (AName x)) = (t.schemes x).body ≡ exn_ty
    DatumForm (Some _) = Unit {0}
    DatumForm None = ⊥

    -- no function constant, and no exception name with an argument
    abbrev pub IsDatum : Value → Type 0
    IsDatum (Maker n) = ⊥
    IsDatum RefMaker = ⊥
    IsDatum (Builtin f) = is_plain (Builtin f) ≡ true
    IsDatum (Library e) = library_exn e ≡ exn_ty
    IsDatum (At a) = DatumForm (slice_get forms a)
    IsDatum _ = Unit {0}

    abbrev pub AreData : List Value → Type 0
    AreData vs = AllByRecursion IsDatum vs

    abbrev pub NameForm : Tree → Option Form → Type 0
    NameForm u (Some (AName x)) = (t.schemes x).body ≡ u
    NameForm u _ = ⊥

    -- an exception name that was declared with this type
    abbrev pub IsNameOf : Tree → Value → Type 0
    IsNameOf u (Library e) = library_exn e ≡ u
    IsNameOf u (At a) = NameForm u (slice_get forms a)
    IsNameOf u _ = ⊥

    -- what a variable stands for
    abbrev pub IsHeld : Bool → ℕ → Value → Type 0
    IsHeld true x v = IsNameOf (t.schemes x).body v
    IsHeld false x v = IsDatum v

    abbrev pub HoldsWell : Env → Type 0
    HoldsWell env = AllByRecursion (λ b. IsHeld (is_exception_name b.0) b.0 b.1) env

    -- what a function part is, by what stands there
    abbrev pub IsOperator : Operator → Value → Type 0
    IsOperator Computed v = IsDatum v
    IsOperator (Constant c) (Builtin f) = same_bool c (is_comparison f) ≡ true
    IsOperator (Constant c) (Maker n) = c ≡ false
    IsOperator (Constant c) RefMaker = c ≡ false
    IsOperator (Constant c) (Library e) = c ≡ false
    IsOperator (Constant c) (Tag n) = Unit {0}
    IsOperator (Constant c) _ = ⊥
    IsOperator Exception v = (u : Tree) × IsNameOf u v

    -- ---- Frames

    abbrev pub TakesForm : Option Form → Type 0
    TakesForm (Some (AFunctionPart f)) = operator_of p.nodes f ≡ Computed
    TakesForm (Some _) = Unit {0}
    TakesForm None = ⊥

    -- data come back
    abbrev pub TakesData : Option Address → Type 0
    TakesData None = Unit {0}
    TakesData (Some a) = TakesForm (slice_get forms a)

    abbrev pub ComesForm : Option Form → Value → Type 0
    ComesForm (Some (AFunctionPart f)) v = IsOperator (operator_of p.nodes f) v
    ComesForm (Some _) v = IsDatum v
    ComesForm None v = ⊥

    -- the value may come back
    abbrev pub ComesTo : Option Address → Value → Type 0
    ComesTo None v = Unit {0}
    ComesTo (Some a) v = ComesForm (slice_get forms a) v

    abbrev pub FitsForm : Option Form → ℕ → Type 0
    FitsForm (Some (AFunctionPart f)) i = (operator_of p.nodes f ≡ operator_of p.nodes i) ⊎ ((operator_of p.nodes f ≡ Computed) × IsConstantNone i)
    FitsForm (Some _) i = IsConstantNone i
    FitsForm None i = ⊥

    -- the value of a node may come back
    abbrev pub FitsAt : Option Address → ℕ → Type 0
    FitsAt None i = IsConstantNone i
    FitsAt (Some a) i = FitsForm (slice_get forms a) i

    -- ---- Blocks and controls

    abbrev pub AwaitsWell : Awaits → Type 0
    AwaitsWell (FunctionPart f a env) = HoldsWell env × IsConstantNone a
    AwaitsWell (ArgumentPart a f) = Unit {0}
    AwaitsWell (FieldPart e fields before later env) = AreData before × HoldsWell env × NoFields later
    AwaitsWell (Subject e rules env) = HoldsWell env × NoBodies rules
    AwaitsWell (RightSide b later body env) = HoldsWell env × NoRights later × IsConstantNone body
    AwaitsWell (RaisePart e) = Unit {0}
    AwaitsWell (Guarded i rules env) = HoldsWell env × NoBodies rules

    abbrev pub BlockWell : Block → Type 0
    BlockWell (Tuple vs) = AreData vs
    BlockWell (Applied n v) = IsDatum v
    BlockWell (Cell v) = IsDatum v
    BlockWell (Packet x v) = IsDatum v
    BlockWell (Closure i rules env) = HoldsWell env × NoBodies rules
    BlockWell (Frame w next) = AwaitsWell w × TakesData next
    BlockWell _ = Unit {0}

    abbrev pub ControlWell : Control → Type 0
    ControlWell (Eval i env k) = HoldsWell env × FitsAt k i
    ControlWell (Ret v k) = ComesTo k v
    ControlWell (Apply f v k) = IsDatum v × TakesData k
    ControlWell (Raise x k) = IsDatum x
    ControlWell (Eq pairs q k) = TakesData k
    ControlWell (End e) = Unit {0}

  abbrev pub StoreWell : List Block → Type 0
  StoreWell store = AllByRecursion (BlockWell (forms_of store)) store

  pub record FlowsWell (s : State) : Type 0 where
    pub store : StoreWell s.store
    pub control : ControlWell (forms_of s.store) s.control.control
