-- How states of the argument and of the answer are related.
use Rattle.std.proofs.Common.{◌≡◌, ◌≢◌, ℕ, zero, suc, ◌<◌, ◌≤◌, ◌+◌, ◌-◌, List, [], ◌∷◌, ◌++◌, map, set, length, Option, Some, None, slice_get, Bool, true, false, cond, ◌⊎◌, inl, inr, refl, sym, ap, ap₂, ◌∙◌, subst, subst₂, arith, ⊎_elim, eqb-true, eq-eqb, lt_irrefl, length-append, nat_eq, nat_lt}
use Rattle.std.proofs.lemmas.Bool.Decides.{nat_tests}
use Rattle.std.proofs.lemmas.Option.{slice_get_within}
use Rattle.smlc_base.specs.declared.point.Point.{Point}
use Rattle.simulation.specs.Blocks.{IsAmong}
use Rattle.smlc_base.specs.Points.{is_label}
use Rattle.simulation.proofs.Lists.{some_eq, get_append, get_split, get_past, get_below, get_set_same, get_set_other, length_set}
use Rattle.simulation.proofs.Heaps.{eq_cases}
use Rattle.sml_def.specs.State.{Value, At, Address, Block, Tuple, Applied, Text, Cell, ExnName, Packet, Pending}
use Rattle.cps_ir.specs.declared.atom.Atom.{Atom}
use Rattle.cps_ir.specs.declared.atom.Shape.{Shape}
use Rattle.cps_ir.specs.declared.atom.Atom.TheVariants as atom
use Rattle.cps_ir.specs.declared.atom.Shape.TheVariants as form
use Rattle.cps_ir.specs.Code.{Code, Call, Functions, NoFunction, Function, names_of}
use Rattle.cps_ir.specs.State.{Vars, bind, value, values, Piece, Plain, Fun}
use Rattle.cps_ir.specs.Step.{block_made, bind_functions, pieces_of}
use Rattle.contract_laws.specs.Contract.{Made, Body, Scope, scope, nothing, AtomAt, AtomsAt, Fresh, AllFresh, kept, lost, params_kept, with_params, inner, given_atoms, called, Contracts}

-- ---- Values changed at one place

pub neqb : (a b : ℕ) → a ≢ b → nat_eq a b ≡ false
neqb a b n = by (nat_eq a b) refl
  where
    by : (c : Bool) → nat_eq a b ≡ c → nat_eq a b ≡ false
    by true e = absurd (n (eqb-true a b e))
    by false e = e

pub eqb_other : (a b : ℕ) → nat_eq a b ≡ false → a ≢ b
eqb_other a b e f = let g : nat_eq a b ≡ true = eq-eqb a b f in cc

pub bind_same : {X : Type 0} (env : ℕ → X) (x : ℕ) (v : X) → bind env x v x ≡ v
bind_same env x v = ap (λ t. cond t v (env x)) (eq-eqb x x refl)

pub bind_other : {X : Type 0} (env : ℕ → X) (x : ℕ) (v : X) (y : ℕ) → y ≢ x → bind env x v y ≡ env y
bind_other env x v y n = ap (λ t. cond t v (env y)) (neqb y x n)

-- ---- Worlds

-- the addresses of the argument's store for those of the answer's, both stores, and the answer's variables
pub record World : Type 0 where
  pub f : ℕ → ℕ
  pub st : List Piece
  pub ps : List Piece
  pub env : Vars
  pub ns : List ℕ

abbrev pub world : (ℕ → ℕ) → List Piece → List Piece → Vars → List ℕ → World
world f st ps env ns = record { f = f; st = st; ps = ps; env = env; ns = ns }

-- a value that names no block
abbrev pub is_blockless : Value → Bool
is_blockless (At a) = false
is_blockless v = true

-- A value and its image. A function that only calls another with its own parameters stands for that one.
pub data Val (L : List Point) (f : ℕ → ℕ) (st : List Piece) (len : ℕ) : Value → Value → Type 0 where
  same : (v : Value) → is_blockless v ≡ true → Val L f st len v v
  address : (a b : ℕ) → b < len → f b ≡ a → Val L f st len (At a) (At b)
  eta : (a : ℕ) (p : Point) (xs : List ℕ) (x : ℕ) (env : Vars) (v : Value) → slice_get st a ≡ Some (Fun p xs (Call (atom.Var x) (map atom.Var xs)) env) → is_label L p ≡ false → (IsAmong x xs → ⊥) → AllFresh xs [] → Val L f st len (env x) v → Val L f st len (At a) v

-- how many steps such functions take before the one that is called
abbrev pub depth : {L : List Point} {f : ℕ → ℕ} {st : List Piece} {len : ℕ} {u v : Value} → Val L f st len u v → ℕ
depth (same v e) = 0
depth (address a b l e) = 0
depth (eta a p xs x env v at h n d r) = suc (suc (depth r))

pub data Vals (L : List Point) (f : ℕ → ℕ) (st : List Piece) (len : ℕ) : List Value → List Value → Type 0 where
  none : Vals L f st len [] []
  next : (u v : Value) (us vs : List Value) → Val L f st len u v → Vals L f st len us vs → Vals L f st len (u ∷ us) (v ∷ vs)

pub data ValOption (f : ℕ → ℕ) (len : ℕ) : Option Address → Option Address → Type 0 where
  none : ValOption f len None None
  some : (a b : ℕ) → b < len → f b ≡ a → ValOption f len (Some a) (Some b)

-- data blocks of one shape, whose fields are related
pub data IsDatum (L : List Point) (f : ℕ → ℕ) (st : List Piece) (len : ℕ) : Block → Block → Type 0 where
  tuple : (us vs : List Value) → Vals L f st len us vs → IsDatum L f st len (Tuple us) (Tuple vs)
  applied : (n : ℕ) (u v : Value) → Val L f st len u v → IsDatum L f st len (Applied n u) (Applied n v)
  text : (bytes : List ℕ) → IsDatum L f st len (Text bytes) (Text bytes)
  cell : (u v : Value) → Val L f st len u v → IsDatum L f st len (Cell u) (Cell v)
  exn_name : (x : ℕ) → IsDatum L f st len (ExnName x) (ExnName x)
  packet : (x y u v : Value) → Val L f st len x y → Val L f st len u v → IsDatum L f st len (Packet x u) (Packet y v)
  pending : (x y u v : Value) (m n : Option Address) → Val L f st len x y → Val L f st len u v → ValOption f len m n → IsDatum L f st len (Pending x u m) (Pending y v n)

abbrev pub InNames : List ℕ → Atom → Type 0
InNames ns (atom.Var x) = IsAmong x ns
InNames ns (atom.Constant v) = Unit {0}

abbrev pub AllInNames : List ℕ → List Atom → Type 0
AllInNames ns [] = Unit {0}
AllInNames ns (a ∷ atoms) = InNames ns a × AllInNames ns atoms

-- the atom of the answer has the value
pub record Holds (L : List Point) (W : World) (v : Value) (a : Atom) : Type 0 where
  pub known : InNames W.ns a
  pub val : Val L W.f W.st (length W.ps) v (value W.env a)

pub data AllHold (L : List Point) (W : World) : List Value → List Atom → Type 0 where
  none : AllHold L W [] []
  next : (v : Value) (a : Atom) (vs : List Value) (atoms : List Atom) → Holds L W v a → AllHold L W vs atoms → AllHold L W (v ∷ vs) (a ∷ atoms)

abbrev pub Names : List Point → World → (ℕ → Option Atom) → Vars → Type 0
Names L W σ env = (x : ℕ) (a : Atom) → σ x ≡ Some a → Holds L W (env x) a

abbrev pub is_cell : Piece → Bool
is_cell (Plain (Cell v)) = true
is_cell _ = false

-- what stays as it is
abbrev pub is_still : Shape → Bool
is_still form.Tuple = true
is_still (form.Applied n) = true
is_still _ = false

-- a variable of the answer is such a block
pub record IsMade (W : World) (z : ℕ) (t : Made) : Type 0 where
  pub at : ℕ
  pub block : Block
  pub is : W.env z ≡ At at
  pub stands : slice_get W.ps at ≡ Some (Plain block)
  pub stays : is_cell (Plain block) ≡ false
  pub still : is_still t.shape ≡ true
  pub made : block_made t.shape (values W.env t.atoms) ≡ Some block
  pub known : IsAmong z W.ns
  pub parts : AllInNames W.ns t.atoms

-- a function that the answer doesn't have
pub record IsBody (L : List Point) (W : World) (v : Value) (b : Body) : Type 0 where
  pub at : ℕ
  pub point : Point
  pub env : Vars
  pub is : v ≡ At at
  pub stands : slice_get W.st at ≡ Some (Fun point b.params b.code env)
  pub hidden : is_label L point ≡ false
  pub names : Names L W b.σ env

pub record Env (L : List Point) (W : World) (S : Scope) (env : Vars) : Type 0 where
  pub names : Names L W S.σ env
  pub blocks : (z : ℕ) (t : Made) → S.τ z ≡ Some t → IsMade W z t
  pub bodies : (x : ℕ) (b : Body) → S.ι x ≡ Some b → IsBody L W (env x) b

pub data IsPiece (T : List (List ℕ)) (L : List Point) (f : ℕ → ℕ) (st ps : List Piece) : Piece → Piece → Type 0 where
  closure : (w : ℕ) (S : Scope) (p : Point) (xs : List ℕ) (b d : Code) (env env' : Vars) → AllFresh xs S.ns → Names L (world f st ps env' S.ns) S.σ env → Contracts T L w (inner S xs) b d → IsPiece T L f st ps (Fun p xs b env) (Fun p xs d env')
  plain : (b d : Block) → IsDatum L f st (length ps) b d → IsPiece T L f st ps (Plain b) (Plain d)

pub record Stands (T : List (List ℕ)) (L : List Point) (f : ℕ → ℕ) (st ps : List Piece) (b : ℕ) (x : Piece) : Type 0 where
  pub item : Piece
  pub at : slice_get st (f b) ≡ Some item
  pub is : IsPiece T L f st ps item x

pub record Heap (T : List (List ℕ)) (L : List Point) (f : ℕ → ℕ) (st ps : List Piece) : Type 0 where
  pub piece : (b : ℕ) (x : Piece) → slice_get ps b ≡ Some x → Stands T L f st ps b x
  pub apart : (a b : ℕ) (x y : Piece) → slice_get ps a ≡ Some x → slice_get ps b ≡ Some y → f a ≡ f b → a ≡ b

-- ---- What stays as both go on

pub record More (f g : ℕ → ℕ) (st st' : List Piece) (ps ps' : List Piece) : Type 0 where
  pub image : (b : ℕ) → b < length ps → g b ≡ f b
  pub left : (a : ℕ) (x : Piece) → slice_get st a ≡ Some x → is_cell x ≡ false → slice_get st' a ≡ Some x
  pub right : (a : ℕ) (x : Piece) → slice_get ps a ≡ Some x → is_cell x ≡ false → slice_get ps' a ≡ Some x
  pub longer : length ps ≤ length ps'

pub record Later (W X : World) : Type 0 where
  pub more : More W.f X.f W.st X.st W.ps X.ps
  pub same : (x : ℕ) → IsAmong x W.ns → X.env x ≡ W.env x
  pub on : (x : ℕ) → IsAmong x W.ns → IsAmong x X.ns

module _ (L : List Point) (f g : ℕ → ℕ) (st st' ps ps' : List Piece) (m : More f g st st' ps ps') where
  pub val_later : (v u : Value) → Val L f st (length ps) v u → Val L g st' (length ps') v u
  val_later v u (same v' e) = same v' e
  val_later v u (address a b l e) = let k = m.longer in address a b (omega arith) (m.image b l ∙ e)
  val_later v u (eta a p xs x env w at hid n d r) = eta a p xs x env w (m.left a (Fun p xs (Call (atom.Var x) (map atom.Var xs)) env) at refl) hid n d (val_later (env x) w r)

  pub vals_later : (vs us : List Value) → Vals L f st (length ps) vs us → Vals L g st' (length ps') vs us
  vals_later vs us none = none
  vals_later vs us (next v u ws xs h r) = next v u ws xs (val_later v u h) (vals_later ws xs r)

  pub option_later : (v u : Option Address) → ValOption f (length ps) v u → ValOption g (length ps') v u
  option_later v u none = none
  option_later v u (some a b l e) = let k = m.longer in some a b (omega arith) (m.image b l ∙ e)

  pub datum_later : (b d : Block) → IsDatum L f st (length ps) b d → IsDatum L g st' (length ps') b d
  datum_later b d (tuple us vs h) = tuple us vs (vals_later us vs h)
  datum_later b d (applied n u v h) = applied n u v (val_later u v h)
  datum_later b d (text bytes) = text bytes
  datum_later b d (cell u v h) = cell u v (val_later u v h)
  datum_later b d (exn_name x) = exn_name x
  datum_later b d (packet x y u v h k) = packet x y u v (val_later x y h) (val_later u v k)
  datum_later b d (pending x y u v o n h k i) = pending x y u v o n (val_later x y h) (val_later u v k) (option_later o n i)

names_on : (W X : World) → Later W X → (a : Atom) → InNames W.ns a → InNames X.ns a
names_on W X l (atom.Var x) h = l.on x h
names_on W X l (atom.Constant v) h = tt

all_on : (W X : World) → Later W X → (atoms : List Atom) → AllInNames W.ns atoms → AllInNames X.ns atoms
all_on W X l [] h = tt
all_on W X l (a ∷ atoms) h = (names_on W X l a h.0, all_on W X l atoms h.1)

pub value_later : (W X : World) → Later W X → (a : Atom) → InNames W.ns a → value X.env a ≡ value W.env a
value_later W X l (atom.Var x) h = l.same x h
value_later W X l (atom.Constant v) h = refl

pub values_later : (W X : World) → Later W X → (atoms : List Atom) → AllInNames W.ns atoms → values X.env atoms ≡ values W.env atoms
values_later W X l [] h = refl
values_later W X l (a ∷ atoms) h = ap₂ (λ v vs. v ∷ vs) (value_later W X l a h.0) (values_later W X l atoms h.1)

pub holds_later : (L : List Point) (W X : World) → Later W X → (v : Value) (a : Atom) → Holds L W v a → Holds L X v a
holds_later L W X l v a h = record {
  known = names_on W X l a h.known;
  val = subst (λ t. Val L X.f X.st (length X.ps) v t) (sym (value_later W X l a h.known)) (val_later L W.f X.f W.st X.st W.ps X.ps l.more v (value W.env a) h.val);
}

pub names_later : (L : List Point) (W X : World) → Later W X → (σ : ℕ → Option Atom) (env : Vars) → Names L W σ env → Names L X σ env
names_later L W X l σ env h x a e = holds_later L W X l (env x) a (h x a e)

pub made_later : (W X : World) → Later W X → (z : ℕ) (t : Made) → IsMade W z t → IsMade X z t
made_later W X l z t h = record {
  at = h.at;
  block = h.block;
  is = l.same z h.known ∙ h.is;
  stands = l.more.right h.at (Plain h.block) h.stands h.stays;
  stays = h.stays;
  still = h.still;
  made = ap (block_made t.shape) (values_later W X l t.atoms h.parts) ∙ h.made;
  known = l.on z h.known;
  parts = all_on W X l t.atoms h.parts;
}

pub body_later : (L : List Point) (W X : World) → Later W X → (v : Value) (b : Body) → IsBody L W v b → IsBody L X v b
body_later L W X l v b h = record {
  at = h.at;
  point = h.point;
  env = h.env;
  is = h.is;
  stands = l.more.left h.at (Fun h.point b.params b.code h.env) h.stands refl;
  hidden = h.hidden;
  names = names_later L W X l b.σ h.env h.names;
}

pub env_later : (L : List Point) (W X : World) → Later W X → (S : Scope) (env : Vars) → Env L W S env → Env L X S env
env_later L W X l S env h = record {
  names = names_later L W X l S.σ env h.names;
  blocks = λ z t e. made_later W X l z t (h.blocks z t e);
  bodies = λ x b e. body_later L W X l (env x) b (h.bodies x b e);
}

-- what is known of the values of an environment, and of one more
pub bound_fact : {X : Type 0} (Q : Value → X → Type 0) (σ : ℕ → Option X) (env : Vars) (x : ℕ) (o : Option X) (v : Value) → ((y : ℕ) (a : X) → σ y ≡ Some a → Q (env y) a) → ((a : X) → o ≡ Some a → Q v a) → (y : ℕ) (a : X) → bind σ x o y ≡ Some a → Q (bind env x v y) a
bound_fact {X} Q σ env x o v old new y a e = by (nat_eq y x) e
  where
    by : (c : Bool) → cond c o (σ y) ≡ Some a → Q (cond c v (env y)) a
    by true h = new a h
    by false h = old y a h

-- what is known of variables, and of one more
pub at_fact : {X : Type 0} (Q : ℕ → X → Type 0) (σ : ℕ → Option X) (x : ℕ) (o : Option X) → ((y : ℕ) (a : X) → σ y ≡ Some a → Q y a) → ((a : X) → o ≡ Some a → Q x a) → (y : ℕ) (a : X) → bind σ x o y ≡ Some a → Q y a
at_fact {X} Q σ x o old new y a e = by (nat_eq y x) refl e
  where
    by : (c : Bool) → nat_eq y x ≡ c → cond c o (σ y) ≡ Some a → Q y a
    by true g h = subst (λ z. Q z a) (sym (eqb-true y x g)) (new a h)
    by false g h = old y a h

none_fact : {X : Type 0} (Q : X → Type 0) (a : X) → None ≡ Some a → Q a
none_fact Q a e = absurd (cc)

-- x is bound in both
pub env_kept : (L : List Point) (W X : World) → Later W X → (S : Scope) (env : Vars) (x : ℕ) (v : Value) (t : Option Made) → Env L W S env → Holds L X v (atom.Var x) → ((m : Made) → t ≡ Some m → IsMade X x m) → Env L X (kept S x t) (bind env x v)
env_kept L W X l S env x v t h new made = let k = env_later L W X l S env h in record {
  names = bound_fact (Holds L X) S.σ env x (Some (atom.Var x)) v k.names (λ a e. some_eq (Holds L X v) (atom.Var x) a e new);
  blocks = at_fact (IsMade X) S.τ x t k.blocks made;
  bodies = bound_fact (IsBody L X) S.ι env x None v k.bodies (none_fact (IsBody L X v));
}

-- x is bound in the argument alone
pub env_lost : (L : List Point) (X : World) (S : Scope) (env : Vars) (x : ℕ) (v : Value) (o : Option Atom) (i : Option Body) → Env L X S env → ((a : Atom) → o ≡ Some a → Holds L X v a) → ((b : Body) → i ≡ Some b → IsBody L X v b) → Env L X (lost S x o i) (bind env x v)
env_lost L X S env x v o i k new body = record {
  names = bound_fact (Holds L X) S.σ env x o v k.names new;
  blocks = k.blocks;
  bodies = bound_fact (IsBody L X) S.ι env x i v k.bodies body;
}

-- ---- How the stores go on

pub more_refl : (f : ℕ → ℕ) (st ps : List Piece) → More f f st st ps ps
more_refl f st ps = record { image = λ b l. refl; left = λ a x e n. e; right = λ a x e n. e; longer = omega arith }

pub more_left : (f : ℕ → ℕ) (st ps zs : List Piece) → More f f st (st ++ zs) ps ps
more_left f st ps zs = record { image = λ b l. refl; left = λ a y e n. get_append st zs a y e; right = λ a x e n. e; longer = omega arith }

-- b below l has its image, and one past l the one as far past m
abbrev pub shift : (ℕ → ℕ) → ℕ → ℕ → ℕ → ℕ
shift f l m b = cond (nat_lt b l) (f b) (m + (b - l))

pub shift_old : (f : ℕ → ℕ) (l m b : ℕ) → b < l → shift f l m b ≡ f b
shift_old f l m b h = by (nat_lt b l) refl
  where
    by : (c : Bool) → nat_lt b l ≡ c → cond c (f b) (m + (b - l)) ≡ f b
    by true e = refl
    by false e = absurd (grind (arith, nat_tests))

pub shift_new : (f : ℕ → ℕ) (l m c : ℕ) → shift f l m (l + c) ≡ m + c
shift_new f l m c = by (nat_lt (l + c) l) refl
  where
    by : (d : Bool) → nat_lt (l + c) l ≡ d → cond d (f (l + c)) (m + ((l + c) - l)) ≡ m + c
    by true e = absurd (grind (arith, nat_tests))
    by false e = omega arith

abbrev pub grown : (ℕ → ℕ) → List Piece → List Piece → ℕ → ℕ
grown f st ps = shift f (length ps) (length st)

pub more_both : (f : ℕ → ℕ) (st ps zs ys : List Piece) → More f (grown f st ps) st (st ++ zs) ps (ps ++ ys)
more_both f st ps zs ys = record {
  image = λ b l. shift_old f (length ps) (length st) b l;
  left = λ a z e n. get_append st zs a z e;
  right = λ a z e n. get_append ps ys a z e;
  longer = omega (arith, length-append ps ys);
}

-- nothing is bound
pub later_same : (f g : ℕ → ℕ) (st st' ps ps' : List Piece) → More f g st st' ps ps' → (env : Vars) (ns : List ℕ) → Later (world f st ps env ns) (world g st' ps' env ns)
later_same f g st st' ps ps' m env ns = record { more = m; same = λ x i. refl; on = λ x i. i }

-- a new name is bound
pub later_bound : (f g : ℕ → ℕ) (st st' ps ps' : List Piece) → More f g st st' ps ps' → (env : Vars) (ns : List ℕ) (x : ℕ) (v : Value) → Fresh x ns → Later (world f st ps env ns) (world g st' ps' (bind env x v) (x ∷ ns))
later_bound f g st st' ps ps' m env ns x v h = record {
  more = m;
  same = λ y i. bind_other env x v y (λ e. h (subst (λ t. IsAmong t ns) e i));
  on = λ y i. inr i;
}

pub piece_later : (T : List (List ℕ)) (L : List Point) (f g : ℕ → ℕ) (st st' ps ps' : List Piece) → More f g st st' ps ps' → (i x : Piece) → IsPiece T L f st ps i x → IsPiece T L g st' ps' i x
piece_later T L f g st st' ps ps' m i x (closure w S p xs b d env env' fr h c) =
    closure w S p xs b d env env' fr (names_later L (world f st ps env' S.ns) (world g st' ps' env' S.ns) (later_same f g st st' ps ps' m env' S.ns) S.σ env h) c
piece_later T L f g st st' ps ps' m i x (plain b d h) = plain b d (datum_later L f g st st' ps ps' m b d h)

-- the argument alone makes blocks
pub heap_left : (T : List (List ℕ)) (L : List Point) (f : ℕ → ℕ) (st ps zs : List Piece) → Heap T L f st ps → Heap T L f (st ++ zs) ps
heap_left T L f st ps zs h = record {
  piece = λ b y s. let r = h.piece b y s in record { item = r.item; at = get_append st zs (f b) r.item r.at; is = piece_later T L f f st (st ++ zs) ps ps (more_left f st ps zs) r.item y r.is };
  apart = h.apart;
}

-- each new block of the answer has its own among those of the argument
abbrev pub AreNew : List (List ℕ) → List Point → (ℕ → ℕ) → List Piece → List Piece → List Piece → List Piece → Type 0
AreNew T L f st ps zs ys = (c : ℕ) (x : Piece) → slice_get ys c ≡ Some x → (i : Piece) × (slice_get zs c ≡ Some i) × IsPiece T L (grown f st ps) (st ++ zs) (ps ++ ys) i x

-- both make as many
pub heap_both : (T : List (List ℕ)) (L : List Point) (f : ℕ → ℕ) (st ps zs ys : List Piece) → AreNew T L f st ps zs ys → Heap T L f st ps → Heap T L (grown f st ps) (st ++ zs) (ps ++ ys)
heap_both T L f st ps zs ys new h = record { piece = piece; apart = apart }
  where
    g : ℕ → ℕ
    g = grown f st ps

    m : More f (grown f st ps) st (st ++ zs) ps (ps ++ ys)
    m = more_both f st ps zs ys

    old : (b : ℕ) (z : Piece) → slice_get ps b ≡ Some z → grown f st ps b ≡ f b
    old b z s = m.image b (slice_get_within ps b z s)

    past : (b c : ℕ) → b ≡ length ps + c → grown f st ps b ≡ length st + c
    past b c e = ap (grown f st ps) e ∙ shift_new f (length ps) (length st) c

    below : (b : ℕ) (z : Piece) → slice_get ps b ≡ Some z → f b < length st
    below b z s = let r = h.piece b z s in slice_get_within st (f b) r.item r.at

    piece : (b : ℕ) (z : Piece) → slice_get (ps ++ ys) b ≡ Some z → Stands T L (grown f st ps) (st ++ zs) (ps ++ ys) b z
    piece b z s =
        ⊎_elim
        (λ (o : slice_get ps b ≡ Some z). let r = h.piece b z o in record {
          item = r.item;
          at = ap (slice_get (st ++ zs)) (old b z o) ∙ get_append st zs (f b) r.item r.at;
          is = piece_later T L f (grown f st ps) st (st ++ zs) ps (ps ++ ys) m r.item z r.is;
        })
        (λ (o : (c : ℕ) × (b ≡ length ps + c) × (slice_get ys c ≡ Some z)). let r = new o.0 z o.2 in record {
          item = r.0;
          at = ap (slice_get (st ++ zs)) (past b o.0 o.1) ∙ get_past st zs o.0 ∙ r.1;
          is = r.2;
        })
        (get_split ps ys b z s)

    apart : (a b : ℕ) (u v : Piece) → slice_get (ps ++ ys) a ≡ Some u → slice_get (ps ++ ys) b ≡ Some v → grown f st ps a ≡ grown f st ps b → a ≡ b
    apart a b u v s t e =
        ⊎_elim
        (λ (o : slice_get ps a ≡ Some u). ⊎_elim
        (λ (q : slice_get ps b ≡ Some v). h.apart a b u v o q (sym (old a u o) ∙ e ∙ old b v q))
        (λ (q : (c : ℕ) × (b ≡ length ps + c) × (slice_get ys c ≡ Some v)). absurd (let i = below a u o in let j = old a u o in let k = past b q.0 q.1 in omega arith))
        (get_split ps ys b v t))
        (λ (o : (c : ℕ) × (a ≡ length ps + c) × (slice_get ys c ≡ Some u)). ⊎_elim
        (λ (q : slice_get ps b ≡ Some v). absurd (let i = below b v q in let j = old b v q in let k = past a o.0 o.1 in omega arith))
        (λ (q : (c : ℕ) × (b ≡ length ps + c) × (slice_get ys c ≡ Some v)). let i = past a o.0 o.1 in let j = past b q.0 q.1 in let k = o.1 in let l = q.1 in omega arith)
        (get_split ps ys b v t))
        (get_split ps ys a u s)

pub holds_new : (L : List Point) (f : ℕ → ℕ) (st ps : List Piece) (env : Vars) (ns : List ℕ) (x : ℕ) (v v' : Value) → Val L f st (length ps) v v' → Holds L (world f st ps (bind env x v') (x ∷ ns)) v (atom.Var x)
holds_new L f st ps env ns x v v' h = record { known = inl refl; val = subst (λ t. Val L f st (length ps) v t) (sym (bind_same env x v')) h }

-- the c-th new block is the image of the other c-th
pub val_new : (L : List Point) (f : ℕ → ℕ) (st ps zs ys : List Piece) (c : ℕ) → c < length ys → Val L (grown f st ps) (st ++ zs) (length (ps ++ ys)) (At (length st + c)) (At (length ps + c))
val_new L f st ps zs ys c l = address (length st + c) (length ps + c) (omega (arith, length-append ps ys)) (shift_new f (length ps) (length st) c)

-- a cell is assigned in both
pub more_set : (f : ℕ → ℕ) (st ps : List Piece) (a b : ℕ) (u u' v v' : Value) → slice_get st a ≡ Some (Plain (Cell u)) → slice_get ps b ≡ Some (Plain (Cell u')) → More f f st (set st a (Plain (Cell v))) ps (set ps b (Plain (Cell v')))
more_set f st ps a b u u' v v' s t = record {
  image = λ c l. refl;
  left = λ c x e n. get_set_other st a (Plain (Cell v)) c (other st a c u x s e n) ∙ e;
  right = λ c x e n. get_set_other ps b (Plain (Cell v')) c (other ps b c u' x t e n) ∙ e;
  longer = omega (arith, length_set ps b (Plain (Cell v')));
}
  where
    other : (xs : List Piece) (a c : ℕ) (u : Value) (x : Piece) → slice_get xs a ≡ Some (Plain (Cell u)) → slice_get xs c ≡ Some x → is_cell x ≡ false → c ≢ a
    other xs a c u x s e n q =
        let g : Some x ≡ Some (Plain (Cell u)) = sym e ∙ ap (slice_get xs) q ∙ s in
        let k : x ≡ Plain (Cell u) = cc in
        let i : true ≡ false = ap is_cell (sym k) ∙ n in
        cc

pub heap_set : (T : List (List ℕ)) (L : List Point) (f : ℕ → ℕ) (st ps : List Piece) (b : ℕ) (u u' v v' : Value) → slice_get st (f b) ≡ Some (Plain (Cell u)) → slice_get ps b ≡ Some (Plain (Cell u')) → Val L f st (length ps) v v' → Heap T L f st ps → Heap T L f (set st (f b) (Plain (Cell v))) (set ps b (Plain (Cell v')))
heap_set T L f st ps b u u' v v' s t r h = record { piece = piece; apart = λ c d x y i j e. h.apart c d (was c x i).0 (was d y j).0 (was c x i).1 (was d y j).1 e }
  where
    m : More f f st (set st (f b) (Plain (Cell v))) ps (set ps b (Plain (Cell v')))
    m = more_set f st ps (f b) b u u' v v' s t

    was : (c : ℕ) (x : Piece) → slice_get (set ps b (Plain (Cell v'))) c ≡ Some x → (y : Piece) × (slice_get ps c ≡ Some y)
    was c x i = get_below ps c (let l = slice_get_within (set ps b (Plain (Cell v'))) c x i in omega (arith, length_set ps b (Plain (Cell v'))))

    piece : (c : ℕ) (x : Piece) → slice_get (set ps b (Plain (Cell v'))) c ≡ Some x → Stands T L f (set st (f b) (Plain (Cell v))) (set ps b (Plain (Cell v'))) c x
    piece c x i =
        ⊎_elim
        (λ (e : c ≡ b).
        let g : Some x ≡ Some (Plain (Cell v')) = sym i ∙ ap (slice_get (set ps b (Plain (Cell v')))) e ∙ get_set_same ps b (Plain (Cell v')) (Plain (Cell u')) t in
        let k : x ≡ Plain (Cell v') = cc in
        record {
          item = Plain (Cell v);
          at = ap (λ z. slice_get (set st (f b) (Plain (Cell v))) (f z)) e ∙ get_set_same st (f b) (Plain (Cell v)) (Plain (Cell u)) s;
          is = subst (λ z. IsPiece T L f (set st (f b) (Plain (Cell v))) (set ps b (Plain (Cell v'))) (Plain (Cell v)) z) (sym k)
              (plain (Cell v) (Cell v') (cell v v' (val_later L f f st (set st (f b) (Plain (Cell v))) ps (set ps b (Plain (Cell v'))) m v v' r)));
        })
        (λ (n : c ≢ b).
        let o : slice_get ps c ≡ Some x = sym (get_set_other ps b (Plain (Cell v')) c n) ∙ i in
        let q = h.piece c x o in
        record {
          item = q.item;
          at = get_set_other st (f b) (Plain (Cell v)) (f c) (λ e. n (h.apart c b x (Plain (Cell u')) o t e)) ∙ q.at;
          is = piece_later T L f f st (set st (f b) (Plain (Cell v))) ps (set ps b (Plain (Cell v'))) m q.item x q.is;
        })
        (eq_cases c b)
