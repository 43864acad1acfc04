-- The types that values, blocks and states have in a typed program.
use Rattle.std.specs.Prelude.{◌≡◌, ◌≢◌, ℕ, suc, ◌<◌, Bool, true, false, ◌⊎◌, Option, Some, None, List, [], ◌∷◌, length, map, slice_get}
use Rattle.std.specs.List.{AllByRecursion}
use Rattle.sml_tree.specs.declared.bare.Bare.{Bare}
use Rattle.sml_tree.specs.declared.bare.Con.TheVariants as con
use Rattle.sml_tree.specs.declared.bare.Lab.{Lab}
use Rattle.sml_tree.specs.declared.bare.Field.{Field}
use Rattle.sml_tree.specs.declared.bare.Rule.{Rule}
use Rattle.sml_tree.specs.declared.bare.Binding.{Binding}
use Rattle.sml_tree.specs.declared.bare.Node.{Node}
use Rattle.sml_tree.specs.declared.bare.Node.TheVariants as node
use Rattle.sml_tree.specs.Sets.{has}
use Rattle.sml_tree.specs.Free.{free, binds, free_match, free_fields, free_rest}
use Rattle.sml_tree.specs.IsBare.{IsDistinct, Expression, sort_of, IsOf, Pattern}
use Rattle.sml_types.specs.declared.types.TyVar.{TyVar}
use Rattle.sml_types.specs.declared.tables.ConRow.{ConRow}
use Rattle.sml_types.specs.declared.tables.TypeName.{TypeName}
use Rattle.sml_types.specs.Tree.{Tree, Variable, App, FieldsHead, inst, admits}
use Rattle.sml_types.specs.Poly.{Context, has_num, with_tyvars}
use Rattle.sml_types.specs.Library.{parts, name_ty, arrow, unit_ty, int_ty, char_ty, string_ty, exn_ty, bool_ty, ref_ty, ref_number, arg_of, library_exn, primitive_poly}
use Rattle.sml_types.specs.TypeExps.{IsRecord}
use Rattle.sml_types.specs.NonExpansive.{AreNonExpansive, field_nodes}
use Rattle.sml_types.specs.Typing.{Typing, Covers, variables, fields_of, IsMatch, IsBinding}
use Rattle.sml_def.specs.State.{Value, Number, Letter, Nothing, Tag, Constant, Builtin, Maker, RefMaker, Library, At, Env, Address, Awaits, FunctionPart, ArgumentPart, FieldPart, Subject, RightSide, RaisePart, Guarded, Block, Tuple, Applied, Text, Cell, ExnName, Packet, Closure, Frame, Pending, Control, Eval, Ret, Apply, Raise, Eq, End, look}
use Rattle.sml_def.specs.Run.{State}

-- ---- Families of types

-- marked variables stand for types that admit equality
abbrev pub KeepsMarks : List TypeName → (TyVar → Tree) → Type 0
KeepsMarks names g = (v : TyVar) → v.eq ≡ true → admits names (g v) ≡ true

-- two substitutions are one, but for these variables, and the second keeps the marks
abbrev pub Agrees : List TypeName → List TyVar → (TyVar → Tree) → (TyVar → Tree) → Type 0
Agrees names vs f g = ((v : TyVar) → has_num vs v.num ≡ false → g v ≡ f v) × KeepsMarks names g

-- a type under all substitutions that keep the marks and agree with one, but for some variables
pub record Family : Type 0 where
  pub at : TyVar → Tree
  pub gens : List TyVar
  pub ty : Tree

abbrev pub InFamily : List TypeName → Family → Tree → Type 0
InFamily names f u = (g : TyVar → Tree) × Agrees names f.gens f.at g × (u ≡ inst g f.ty)

abbrev pub family : (TyVar → Tree) → List TyVar → Tree → Family
family g vs u = record { at = g; gens = vs; ty = u }

-- one type
abbrev pub one : (TyVar → Tree) → Tree → Family
one g u = family g [] u

-- what an address stands for: a value of a family of types, a frame that takes such values, and only makers where it says so,
-- an exception name of this type, or a pair that is to be compared
pub data Entry : Type 0 where
  Holds : Family → Entry
  Takes : Family → (makers : Bool) → Entry
  Names : Tree → Entry
  Compares : Entry

-- the type of an exception constructor
abbrev pub IsExnCon : Tree → Type 0
IsExnCon u = (u ≡ exn_ty) ⊎ ((a : Tree) × (u ≡ arrow a exn_ty))

-- ---- Addresses

-- tuples and applied constructors name earlier blocks alone
abbrev pub IsBelow : ℕ → Value → Type 0
IsBelow a (At b) = b < a
IsBelow a _ = Unit {0}

abbrev pub Descends : ℕ → Block → Type 0
Descends a (Tuple vs) = AllByRecursion (IsBelow a) vs
Descends a (Applied k v) = IsBelow a v
Descends a _ = Unit {0}

-- blocks from an address on
abbrev pub AllDescend : ℕ → List Block → Type 0
AllDescend a [] = Unit {0}
AllDescend a (b ∷ bs) = Descends a b × AllDescend (suc a) bs

module _ (p : Bare) (t : Typing) where
  -- ---- Values

  -- constructor number k of a type name has these parameters and this argument
  pub record IsCon (n k : ℕ) (ps : List TyVar) (arg : Option Tree) : Type 0 where
    pub row : TypeName
    pub con : ConRow
    pub named : slice_get t.names n ≡ Some row
    pub numbered : slice_get row.cons k ≡ Some con
    pub params : row.params ≡ ps
    pub is : arg_of t.forms con.arg ≡ arg

  abbrev pub data_ty : ℕ → List TyVar → Tree
  data_ty n ps = name_ty n (variables ps)

  -- a constructor with an argument: its type's number, that type's parameters, and the argument's type, which admits equality where its type does
  pub record Making : Type 0 where
    pub name : ℕ
    pub params : List TyVar
    pub arg : Tree

  pub record IsMaking (k : ℕ) (m : Making) : Type 0 where
    pub is_con : IsCon m.name k m.params (Some m.arg)
    pub covers : Covers m.params m.arg
    pub new : m.name ≢ ref_number
    pub equal : (g : TyVar → Tree) → admits t.names (inst g (data_ty m.name m.params)) ≡ true → admits t.names (inst g m.arg) ≡ true

  abbrev pub EntryTy : Entry → Tree → Type 0
  EntryTy (Holds f) u = InFamily t.names f u
  EntryTy (Names w) u = u ≡ w
  EntryTy _ u = ⊥

  -- a value has a type where addresses stand for these entries
  abbrev pub HasTy : List Entry → Value → Tree → Type 0
  HasTy sig (Number z) u = u ≡ int_ty
  HasTy sig (Letter c) u = u ≡ char_ty
  HasTy sig Nothing u = u ≡ unit_ty
  HasTy sig (Tag k) u = (n : ℕ) × (ps : List TyVar) × (g : TyVar → Tree) × IsCon n k ps None × (u ≡ inst g (data_ty n ps))
  HasTy sig (Constant c) u = (u ≡ string_ty) × (c < length p.texts)
  HasTy sig (Builtin f) u = (g : TyVar → Tree) × KeepsMarks t.names g × (u ≡ inst g (primitive_poly f).body)
  HasTy sig (Maker k) u = (m : Making) × (g : TyVar → Tree) × IsMaking k m × (u ≡ inst g (arrow m.arg (data_ty m.name m.params)))
  HasTy sig RefMaker u = (a : Tree) × (u ≡ arrow a (ref_ty a))
  HasTy sig (Library e) u = u ≡ library_exn e
  HasTy sig (At a) u = (e : Entry) × (slice_get sig a ≡ Some e) × EntryTy e u

  abbrev pub HaveTys : List Entry → List Value → List Tree → Type 0
  HaveTys sig [] [] = Unit {0}
  HaveTys sig (v ∷ vs) (u ∷ us) = HasTy sig v u × HaveTys sig vs us
  HaveTys sig _ _ = ⊥

  -- an exception name of this type
  abbrev pub IsName : List Entry → Value → Tree → Type 0
  IsName sig (Library e) u = u ≡ library_exn e
  IsName sig (At a) u = slice_get sig a ≡ Some (Names u)
  IsName sig _ u = ⊥

  abbrev pub IsMaker : Value → Type 0
  IsMaker v = (k : ℕ) × (v ≡ Maker k)

  -- ---- Environments

  -- a value has all types of a variable's scheme
  abbrev pub HasScheme : List Entry → (TyVar → Tree) → ℕ → Value → Type 0
  HasScheme sig g x v = (h : TyVar → Tree) → Agrees t.names (t.schemes x).vars g h → HasTy sig v (inst h (t.schemes x).body)

  abbrev pub Knows : List Entry → (TyVar → Tree) → Env → ℕ → Type 0
  Knows sig g env x = (v : Value) × (look env x ≡ Some v) × HasScheme sig g x v

  -- the environment has these variables, under a substitution that keeps the marks
  abbrev pub EnvTy : List Entry → (TyVar → Tree) → List ℕ → Env → Type 0
  EnvTy sig g xs env = KeepsMarks t.names g × ((x : ℕ) → has xs x ≡ true → Knows sig g env x)

  -- under all substitutions of a family
  abbrev pub EnvTys : List Entry → Family → List ℕ → Env → Type 0
  EnvTys sig f xs env = (g : TyVar → Tree) → Agrees t.names f.gens f.at g → EnvTy sig g xs env

  -- ---- Frames

  -- a frame takes values as the property asks, or there is none
  abbrev pub Accepts : List Entry → Option Address → (Family → Bool → Type 0) → Type 0
  Accepts sig None P = Unit {0}
  Accepts sig (Some a) P = (f : Family) × (m : Bool) × (slice_get sig a ≡ Some (Takes f m)) × P f m

  -- all types of the one family are of the other, and not makers alone are taken
  abbrev pub TakesAll : Family → Family → Bool → Type 0
  TakesAll f g m = ((u : Tree) → InFamily t.names g u → InFamily t.names f u) × (m ≡ false)

  abbrev pub TakesAny : Family → Bool → Type 0
  TakesAny f m = Unit {0}

  -- what takes a value
  abbrev pub Fits : List Entry → Value → Family → Bool → Type 0
  Fits sig v f m = ((u : Tree) → InFamily t.names f u → HasTy sig v u) × (m ≡ true → IsMaker v)

  abbrev pub IsExp : ℕ → Type 0
  IsExp i = (n : Node) × (slice_get p.nodes i ≡ Some n) × (sort_of n ≡ Expression)

  -- what is evaluated under more than one substitution is non-expansive
  abbrev pub IsFixed : List TyVar → ℕ → Type 0
  IsFixed gens i = (gens ≡ []) ⊎ AreNonExpansive p.nodes (i ∷ [])

  -- rules take a to b
  pub record AreRules (rules : List Rule) (a b : Tree) : Type 0 where
    pub context : Context
    pub match : IsMatch p t rules context a b
    pub bodies : AllByRecursion (λ r. IsExp r.body) rules
    pub pats : AllByRecursion (λ r. IsOf p.nodes Pattern r.pat) rules

  -- the values of the first fields, and the fields behind them
  abbrev pub BeforeTy : List Entry → (TyVar → Tree) → List Value → List Field → List Field → Type 0
  BeforeTy sig g [] all later = all ≡ later
  BeforeTy sig g (v ∷ vs) [] later = ⊥
  BeforeTy sig g (v ∷ vs) (f ∷ all) later = HasTy sig v (inst g (t.types f.node)) × BeforeTy sig g vs all later

  abbrev pub IsRow : List Field → Tree → Type 0
  IsRow fields ty = IsRecord (fields_of p t fields) ty × IsDistinct (map (λ f. f.slot) fields)

  abbrev pub AreExps : List Field → Type 0
  AreExps fields = AllByRecursion (λ f. IsExp f.node) fields

  -- bindings of a value declaration
  pub record AreBindings (bindings : List Binding) : Type 0 where
    pub context : Context
    pub tyvars : List ℕ
    pub bind : AllByRecursion (IsBinding p t context (with_tyvars tyvars context)) bindings
    pub rights : AllByRecursion (λ b. IsExp b.right) bindings
    pub pats : AllByRecursion (λ b. (b.pat < length p.nodes) × IsOf p.nodes Pattern b.pat) bindings

  abbrev pub free_of_match : List Rule → List ℕ
  free_of_match rules = free_match (binds p.nodes) (free p.nodes) rules

  abbrev pub free_of_rest : Binding → List Binding → ℕ → List ℕ
  free_of_rest b later body = free_rest (binds p.nodes) (free p.nodes) b later body

  -- what a frame holds, where it takes values of this family
  abbrev pub FrameTy : List Entry → Awaits → Family → Bool → Option Address → Type 0
  FrameTy sig (FunctionPart i a env) w m next = (u : Tree) × (w.ty ≡ arrow (t.types a) u) × IsExp a × EnvTys sig w (free p.nodes a) env × ((w.gens ≡ []) ⊎ ((m ≡ true) × AreNonExpansive p.nodes (a ∷ []))) × Accepts sig next (TakesAll (family w.at w.gens u))
  FrameTy sig (ArgumentPart i x) w m next = (m ≡ false) × (u : Tree) × ((g : TyVar → Tree) → Agrees t.names w.gens w.at g → HasTy sig x (arrow (inst g w.ty) (inst g u))) × ((w.gens ≡ []) ⊎ IsMaker x) × Accepts sig next (TakesAll (family w.at w.gens u))
  FrameTy sig (FieldPart i fields before later env) w m next = (m ≡ false) × (f : Field) × (u : Tree) × (w.ty ≡ t.types f.node) × IsRow fields u × AreExps later × ((w.gens ≡ []) ⊎ AreNonExpansive p.nodes (field_nodes later)) × ((g : TyVar → Tree) → Agrees t.names w.gens w.at g → BeforeTy sig g before fields (f ∷ later)) × EnvTys sig w (free_fields (free p.nodes) later) env × Accepts sig next (TakesAll (family w.at w.gens u))
  FrameTy sig (Subject i rules env) w m next = (m ≡ false) × (w.gens ≡ []) × (u : Tree) × AreRules rules w.ty u × EnvTy sig w.at (free_of_match rules) env × Accepts sig next (TakesAll (one w.at u))
  FrameTy sig (RightSide b later body env) w m next = (m ≡ false) × (w.gens ≡ t.gens b.right) × (w.ty ≡ t.types b.right) × AreBindings (b ∷ later) × IsExp body × EnvTy sig w.at (free_of_rest b later body) env × Accepts sig next (TakesAll (one w.at (t.types body)))
  FrameTy sig (RaisePart i) w m next = (m ≡ false) × (w.ty ≡ exn_ty) × Accepts sig next TakesAny
  FrameTy sig (Guarded i rules env) w m next = (m ≡ false) × (w.gens ≡ []) × AreRules rules exn_ty w.ty × EnvTy sig w.at (free_of_match rules) env × Accepts sig next (TakesAll w)

  -- ---- Blocks

  -- two values of a type that admits equality
  abbrev pub IsComparable : List Entry → Value → Value → Type 0
  IsComparable sig v w = (u : Tree) × (admits t.names u ≡ true) × HasTy sig v u × HasTy sig w u

  -- pairs that are compared one after another
  abbrev pub AreCompared : List Entry → Option Address → Type 0
  AreCompared sig None = Unit {0}
  AreCompared sig (Some a) = slice_get sig a ≡ Some Compares

  abbrev pub IsTuple : List Entry → List Value → Tree → Type 0
  IsTuple sig vs u = (labs : List Lab) × (us : List Tree) × (u ≡ App (FieldsHead labs) (parts us)) × HaveTys sig vs us

  abbrev pub IsApplied : List Entry → ℕ → Value → Tree → Type 0
  IsApplied sig k v u = (m : Making) × (g : TyVar → Tree) × IsMaking k m × (u ≡ inst g (data_ty m.name m.params)) × HasTy sig v (inst g m.arg)

  abbrev pub BlockTy : List Entry → Block → Entry → Type 0
  BlockTy sig (Tuple vs) (Holds f) = (u : Tree) → InFamily t.names f u → IsTuple sig vs u
  BlockTy sig (Applied k v) (Holds f) = (u : Tree) → InFamily t.names f u → IsApplied sig k v u
  BlockTy sig (Text bytes) (Holds f) = (u : Tree) → InFamily t.names f u → u ≡ string_ty
  BlockTy sig (Cell v) (Holds f) = (a : Tree) × ((u : Tree) → InFamily t.names f u → u ≡ ref_ty a) × HasTy sig v a
  BlockTy sig (ExnName x) (Names u) = (x < length p.names) × IsExnCon u × ((t.schemes x).body ≡ exn_ty → u ≡ exn_ty)
  BlockTy sig (Packet x v) (Holds f) = ((u : Tree) → InFamily t.names f u → u ≡ exn_ty) × (a : Tree) × IsName sig x (arrow a exn_ty) × HasTy sig v a
  BlockTy sig (Closure i rules env) (Holds f) = (slice_get p.nodes i ≡ Some (node.Fn rules)) × (f.ty ≡ t.types i) × EnvTys sig f (free p.nodes i) env
  BlockTy sig (Frame w next) (Takes f m) = KeepsMarks t.names f.at × FrameTy sig w f m next
  BlockTy sig (Pending v w next) Compares = IsComparable sig v w × AreCompared sig next
  BlockTy sig _ _ = ⊥

  abbrev pub StoreTy : List Entry → List Entry → List Block → Type 0
  StoreTy sig [] [] = Unit {0}
  StoreTy sig (e ∷ es) (b ∷ bs) = BlockTy sig b e × StoreTy sig es bs
  StoreTy sig _ _ = ⊥

  -- ---- States

  -- what a frame asks of the value of a node
  abbrev pub TakesNode : ℕ → Family → Family → Bool → Type 0
  TakesNode i f g m = ((u : Tree) → InFamily t.names g u → InFamily t.names f u) × (m ≡ true → (n k : ℕ) × (slice_get p.nodes i ≡ Some (node.Constructor (con.Data n k true))))

  pub record EvalTy (sig : List Entry) (i : ℕ) (env : Env) (k : Option Address) : Type 0 where
    pub family : Family
    pub keeps : KeepsMarks t.names family.at
    pub exp : IsExp i
    pub ty : family.ty ≡ t.types i
    pub fixed : IsFixed family.gens i
    pub knows : EnvTys sig family (free p.nodes i) env
    pub takes : Accepts sig k (TakesNode i family)

  pub record ApplyTy (sig : List Entry) (f v : Value) (k : Option Address) : Type 0 where
    pub family : Family
    pub keeps : KeepsMarks t.names family.at
    pub arg : Tree
    pub function : (g : TyVar → Tree) → Agrees t.names family.gens family.at g → HasTy sig f (arrow (inst g arg) (inst g family.ty))
    pub argument : (g : TyVar → Tree) → Agrees t.names family.gens family.at g → HasTy sig v (inst g arg)
    pub fixed : (family.gens ≡ []) ⊎ IsMaker f
    pub takes : Accepts sig k (TakesAll family)

  abbrev pub ControlTy : List Entry → Control → Type 0
  ControlTy sig (Eval i env k) = EvalTy sig i env k
  ControlTy sig (Ret v k) = Accepts sig k (Fits sig v)
  ControlTy sig (Apply f v k) = ApplyTy sig f v k
  ControlTy sig (Raise x k) = HasTy sig x exn_ty × Accepts sig k TakesAny
  ControlTy sig (Eq pairs q k) = AreCompared sig pairs × Accepts sig k (TakesAll (one Variable bool_ty))
  ControlTy sig (End e) = Unit {0}

  pub record IsTyped (s : State) : Type 0 where
    pub sig : List Entry
    pub store : StoreTy sig sig s.store
    pub descend : AllDescend 0 s.store
    pub control : ControlTy sig s.control.control
