-- Pieces of the store and states of the machine. Values and data blocks are those of the source.
use Rattle.std.specs.Prelude.{ℕ, Bool, List, [], ◌∷◌, Option, Some, None, map, nat_eq, cond}
use Rattle.smlc_base.specs.declared.point.Point.{Point}
use Rattle.smlc_base.specs.declared.primitive.Primitive.TheVariants as prim
use Rattle.sml_def.specs.State as state
use Rattle.sml_def.specs.State.{Value, Address, Block, Closure, Ending}
use Rattle.cps_ir.specs.declared.atom.Constant.{Constant}
use Rattle.cps_ir.specs.declared.atom.Constant.TheVariants as constant
use Rattle.cps_ir.specs.declared.atom.Atom.{Atom}
use Rattle.cps_ir.specs.declared.atom.Atom.TheVariants as atom
use Rattle.cps_ir.specs.Code.{Code}

-- ---- Values

abbrev pub value_of : Constant → Value
value_of (constant.Int z) = state.Number z
value_of (constant.Char c) = state.Letter c
value_of constant.Nothing = state.Nothing
value_of (constant.Tag n) = state.Tag n
value_of (constant.Text t) = state.Constant t
value_of (constant.Library e) = state.Library e
value_of constant.StdIn = state.Builtin prim.StdIn

-- the values of variables; only those of a body's free ones can be observed
abbrev pub Vars : Type 0
Vars = ℕ → Value

abbrev pub bind : {X : Type 0} → (ℕ → X) → ℕ → X → ℕ → X
bind env x v y = cond (nat_eq y x) v (env y)

abbrev pub value : Vars → Atom → Value
value env (atom.Var x) = env x
value env (atom.Constant k) = value_of k

abbrev pub values : Vars → List Atom → List Value
values env atoms = map (value env) atoms

-- the parameters bound, where there is a value for each and no more
abbrev pub given : Vars → List ℕ → List Value → Option Vars
given env [] [] = Some env
given env [] (v ∷ vs) = None
given env (x ∷ xs) [] = None
given env (x ∷ xs) (v ∷ vs) = given (bind env x v) xs vs

-- ---- Pieces

pub data Piece : Type 0 where
  -- a data block
  Plain : Block → Piece
  Fun : (p : Point) (params : List ℕ) (body : Code) (env : Vars) → Piece

-- what primitives and tests see of a piece: of a function, that it is none of the data
abbrev pub datum_of : Piece → Block
datum_of (Plain b) = b
datum_of (Fun p params body env) = Closure 0 [] []

abbrev pub data_of : List Piece → List Block
data_of pieces = map datum_of pieces

-- ---- States

-- what the machine is about to do; the handler is the value of the register
pub data Doing : Type 0 where
  Run : (c : Code) (env : Vars) (handler : Value) → Doing
  Enter : (function : Value) (arguments : List Value) (handler : Value) → Doing
  Raising : (packet handler : Value) → Doing
  Compare : (pairs : Option Address) (truth : Bool) (k handler : Value) → Doing
  Ended : Ending → Doing

-- and the bytes of the input that are left
pub record Facing : Type 0 where
  pub doing : Doing
  pub input : List ℕ
