-- Values, blocks and states of the source machine.
use Rattle.std.specs.Prelude.{ℕ, ℤ, Bool, List, [], ◌∷◌, Option, Some, None, nat_eq, cond, filter_map}
use Rattle.std.specs.Option.{option_map}
use Rattle.smlc_base.specs.declared.primitive.Primitive.{Primitive}
use Rattle.smlc_base.specs.declared.exception.LibraryExn.{LibraryExn}
use Rattle.sml_tree.specs.declared.bare.Field.{Field}
use Rattle.sml_tree.specs.declared.bare.Rule.{Rule}
use Rattle.sml_tree.specs.declared.bare.Binding.{Binding}

-- the place of a block in the store
abbrev pub Address : Type 0
Address = ℕ

-- A value. All but an address takes no memory.
pub data Value : Type 0 where
  Number : ℤ → Value
  Letter : ℕ → Value
  -- the empty record
  Nothing : Value
  -- a constructor without argument
  Tag : (number : ℕ) → Value
  -- a string constant
  Constant : (text : ℕ) → Value
  -- a primitive: a function, or the standard input
  Builtin : Primitive → Value
  -- a constructor with argument, and `ref`, as functions
  Maker : (number : ℕ) → Value
  RefMaker : Value
  -- An exception name of the library. The value of an exception constructor is its exception name, with or without an argument.
  Library : LibraryExn → Value
  At : Address → Value

-- the values of variables, by the numbers of their names
abbrev pub Env : Type 0
Env = List (ℕ × Value)

-- What a frame awaits, what is to be done with it, and what it holds for that. `awaited` is the node whose value is awaited.
pub data Awaits : Type 0 where
  -- the function part of an application
  FunctionPart : (awaited argument : ℕ) (env : Env) → Awaits
  -- its argument
  ArgumentPart : (awaited : ℕ) (function : Value) → Awaits
  -- a field of a record: all fields, the values of the earlier ones, and the later ones
  FieldPart : (awaited : ℕ) (fields : List Field) (before : List Value) (later : List Field) (env : Env) → Awaits
  -- the subject of a `case`
  Subject : (awaited : ℕ) (rules : List Rule) (env : Env) → Awaits
  -- the right side of a binding of a value declaration: the binding, those behind it, and the body
  RightSide : (binding : Binding) (later : List Binding) (body : ℕ) (env : Env) → Awaits
  -- the argument of `raise`
  RaisePart : (awaited : ℕ) → Awaits
  -- the body of a `handle`
  Guarded : (node : ℕ) (rules : List Rule) (env : Env) → Awaits

-- A block of the store
pub data Block : Type 0 where
  Tuple : (fields : List Value) → Block
  Applied : (number : ℕ) (argument : Value) → Block
  Text : (bytes : List ℕ) → Block
  Cell : (content : Value) → Block
  -- an exception name: the number of the name at its declaration
  ExnName : (name : ℕ) → Block
  Packet : (name argument : Value) → Block
  Closure : (node : ℕ) (rules : List Rule) (env : Env) → Block
  Frame : (awaits : Awaits) (next : Option Address) → Block
  Pending : (left right : Value) (next : Option Address) → Block

pub data Ending : Type 0 where
  Normal : Ending
  -- the spelling of the exception's name at its declaration
  Uncaught : (name : List ℕ) → Ending

-- what the machine is about to do; k is the frame that waits, if one does
pub data Control : Type 0 where
  Eval : (node : ℕ) (env : Env) (k : Option Address) → Control
  Ret : (value : Value) (k : Option Address) → Control
  Apply : (function argument : Value) (k : Option Address) → Control
  Raise : (packet : Value) (k : Option Address) → Control
  Eq : (pairs : Option Address) (truth : Bool) (k : Option Address) → Control
  End : Ending → Control

-- the control, and the bytes of the input that are left
pub record Focus : Type 0 where
  pub control : Control
  pub input : List ℕ

-- the value of a variable
abbrev pub look : Env → ℕ → Option Value
look [] x = None
look (b ∷ env) x = cond (nat_eq x b.0) (Some b.1) (look env x)

-- the values of these variables, and of no others
abbrev pub cut : List ℕ → Env → Env
cut names env = filter_map (λ x. option_map (λ v. (x, v)) (look env x)) names

abbrev pub truth : Bool → Value
truth t = Tag (cond t 1 0)
