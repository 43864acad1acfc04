-- The words and cells of the machine, which that of placed programs has too, and how operands are read.
use Rattle.std.specs.Prelude.{ℕ, ◌+◌, ◌/◌, ℤ, List, [], ◌∷◌, Option, Some, None, length, slice_get}
use Rattle.sml_def.specs.Maybe.{◌>>=◌}
use Rattle.closure_ir.specs.declared.operand.Static.{Static}
use Rattle.closure_ir.specs.declared.operand.Static.TheVariants as static
use Rattle.closure_ir.specs.declared.operand.Shape.{Shape}
use Rattle.closure_ir.specs.declared.operand.Operand.{Operand}
use Rattle.closure_ir.specs.declared.operand.Operand.TheVariants as operand

-- a number, a block by its address, a static block, or the code of a label
pub data Word : Type 0 where
  Num : ℤ → Word
  At : (address : ℕ) → Word
  Fixed : Static → Word
  Code : (label : ℕ) → Word

-- What a cell is: made by a Make of the program, or by a primitive or a comparison.
pub data Sort : Type 0 where
  Made : Shape → Sort
  Text : (bytes : List ℕ) → Sort
  -- a pending pair of a comparison: two values and the next pair, and the last one, whose third word is none
  Pair LastPair : Sort

-- a block: its fields are the words behind the header, in order
pub record Cell : Type 0 where
  pub sort : Sort
  pub fields : List Word

-- the words of a block that are no fields: a string's bytes by eight
abbrev pub extra_words : Sort → ℕ
extra_words (Text bytes) = (length bytes + 7) / 8
extra_words LastPair = 1
extra_words _ = 0

-- the words behind the header
abbrev pub cell_length : Cell → ℕ
cell_length c = extra_words c.sort + length c.fields

-- the cells of a store by address
abbrev pub Cells : Type 0
Cells = ℕ → Option Cell

-- what variables hold
abbrev pub Vars : Type 0
Vars = ℕ → Option Word

-- ---- Reading

abbrev pub field_of : Option Cell → ℕ → Option Word
field_of None i = None
field_of (Some c) i = slice_get c.fields i

abbrev pub field_at : Cells → ℕ → Word → Option Word
field_at cells i (At a) = field_of (cells a) i
field_at cells i _ = None

-- along fields of any block
abbrev pub follow : Cells → List ℕ → Option Word → Option Word
follow cells [] w = w
follow cells (i ∷ steps) w = follow cells steps (w >>= field_at cells i)

-- fresh are the addresses of the blocks that are being made
abbrev pub look : Cells → Vars → List Word → Operand → Option Word
look cells env fresh (operand.Path x steps) = follow cells steps (env x)
look cells env fresh (operand.New k) = slice_get fresh k
look cells env fresh (operand.Static s) = Some (Fixed s)
look cells env fresh (operand.Code l) = Some (Code l.0)
look cells env fresh (operand.Literal n) = Some (Num n)

abbrev pub consed : {X : Type 0} → Option X → Option (List X) → Option (List X)
consed None o = None
consed (Some x) None = None
consed (Some x) (Some xs) = Some (x ∷ xs)

abbrev pub all_looked : Cells → Vars → List Word → List Operand → Option (List Word)
all_looked cells env fresh [] = Some []
all_looked cells env fresh (o ∷ os) = consed (look cells env fresh o) (all_looked cells env fresh os)

-- ---- Calls

abbrev pub code_in : Word → Option ℕ
code_in (Code l) = Some l
code_in _ = None

-- the label of a closed function, or the one that the first field of a closure names
abbrev pub label_through : Cells → Word → Option ℕ
label_through cells (At a) = field_of (cells a) 0 >>= code_in
label_through cells (Fixed (static.Function l)) = Some l.0
label_through cells _ = None
