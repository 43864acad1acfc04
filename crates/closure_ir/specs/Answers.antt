-- How the machine sees its words, and what primitives and tests come to on them, by the one meaning. A machine of placed programs has the same words.
use Rattle.std.specs.Prelude.{ℕ, pos, Bool, true, false, List, [], ◌∷◌, Option, Some, None, map, slice_get}
use Rattle.smlc_base.specs.declared.primitive.Primitive.{Primitive}
use Rattle.smlc_base.specs.Exceptions.{exn_number}
use Rattle.prim_meaning.specs.Data as dat
use Rattle.prim_meaning.specs.Meaning as mean
use Rattle.prim_meaning.specs.Meaning.{Seen, Outcome, meaning}
use Rattle.prim_meaning.specs.Strict.{all_met}
use Rattle.prim_meaning.specs.Tests as tested
use Rattle.prim_meaning.specs.Tests.{Which, Declared, OfLibrary, Trial, bytes_wanted, name_wanted}
use Rattle.sml_def.specs.Builtin.{exn_of}
use Rattle.sml_def.specs.Maybe.{◌>>=◌}
use Rattle.closure_ir.specs.declared.operand.Static.TheVariants as static
use Rattle.closure_ir.specs.declared.operand.Shape.TheVariants as shape
use Rattle.closure_ir.specs.declared.body.Wanted.{Wanted}
use Rattle.closure_ir.specs.declared.body.Wanted.TheVariants as want
use Rattle.closure_ir.specs.declared.body.Test.{Test}
use Rattle.closure_ir.specs.Words.{Word, Num, At, Fixed, Sort, Made, Text, Cell, Cells, Vars, look}

-- ---- What is seen

abbrev pub see_block : ℕ → Sort → List Word → Seen Word
see_block a (Made shape.Tuple) fields = mean.Tuple fields
see_block a (Made (shape.Applied n)) (v ∷ []) = mean.Applied a n v
see_block a (Made shape.Cell) (v ∷ []) = mean.Cell a v
see_block a (Made shape.Packet) (x ∷ v ∷ []) = mean.Packet x v
see_block a (Text bytes) fields = mean.Text bytes
see_block a _ fields = mean.Opaque

abbrev pub see_at : ℕ → Option Cell → Seen Word
see_at a None = mean.Opaque
see_at a (Some c) = see_block a c.sort c.fields

abbrev pub see_text : Option (List ℕ) → Seen Word
see_text None = mean.Opaque
see_text (Some bytes) = mean.Text bytes

-- with the string constants
abbrev pub see : List (List ℕ) → Cells → Word → Seen Word
see texts cells (Num z) = mean.Scalar z
see texts cells (At a) = see_at a (cells a)
see texts cells (Fixed (static.Text t)) = see_text (slice_get texts t)
see texts cells _ = mean.Opaque

-- which exception a word names, if it is a name
abbrev pub which : Word → Option Which
which (At a) = Some (Declared a)
which (Fixed (static.Library e)) = Some (OfLibrary (exn_number e))
which _ = None

abbrev pub name_sort : Sort → Option ℕ
name_sort (Made (shape.ExnName n)) = Some n
name_sort _ = None

-- the number of the spelling of an exception name
abbrev pub name_number : Option Cell → Option ℕ
name_number None = None
name_number (Some c) = name_sort c.sort

abbrev pub is_some_number : Option ℕ → Bool
is_some_number None = false
is_some_number (Some n) = true

-- an exception name
abbrev pub is_name : Cells → Word → Bool
is_name cells (At a) = is_some_number (name_number (cells a))
is_name cells (Fixed (static.Library e)) = true
is_name cells _ = false

-- ---- Tests

module _ (texts : List (List ℕ)) (cells : Cells) (env : Vars) where
  -- what is wanted of a value, as the machine has it
  abbrev pub wanted : Wanted → tested.Wanted Word
  wanted (want.Num z) = tested.Num z
  wanted (want.Tag t) = tested.Tag t.number
  wanted (want.Text t) = bytes_wanted (slice_get texts t)
  wanted (want.Exn name applied) = name_wanted applied (look cells env [] name)

  abbrev pub trial : Test → Trial Word
  trial t = record { path = t.path; want = wanted t.want }

  -- Tests look at values of their kind alone, along ways that lead somewhere, and else there is no answer.
  abbrev pub all_stand : Word → List Test → Option Bool
  all_stand w tests = all_met (see texts cells) which (is_name cells) w (map trial tests)

-- ---- Primitives

-- a part of a block that is made: a word, or another block of the same group by its number
pub data Part : Type 0 where
  Old : Word → Part
  Own : (k : ℕ) → Part

pub record Growing : Type 0 where
  pub sort : Sort
  pub parts : List Part

pub data Result : Type 0 where
  Gives : Word → Result
  -- new blocks, of which the last is the result
  Builds : List Growing → Result
  -- what the cell holds from now on; the result is the empty record
  Sets : (address : ℕ) (word : Word) → Result
  Raises : Word → Result

-- what a primitive does: what it writes, the input that it leaves, and its result
pub record Answer : Type 0 where
  pub told : List ℕ
  pub input : List ℕ
  pub result : Result

abbrev pub answers : List ℕ → Result → Answer
answers input r = record { told = []; input = input; result = r }

abbrev pub carry_plain : List ℕ → dat.Plain → Answer
carry_plain input (dat.ANumber z) = answers input (Gives (Num z))
carry_plain input (dat.ALetter c) = answers input (Gives (Num (pos c)))
carry_plain input (dat.ATag n) = answers input (Gives (Num (pos n)))
carry_plain input (dat.AString bytes) = answers input (Builds (record { sort = Text bytes; parts = [] } ∷ []))
carry_plain input (dat.Fails f) = answers input (Raises (Fixed (static.Library (exn_of f))))
carry_plain input (dat.Writes bytes) = record { told = bytes; input = input; result = Gives (Num (pos 0)) }
carry_plain input (dat.ALine line left) =
    answers left
    (Builds (record { sort = Text line; parts = [] } ∷ record { sort = Made (shape.Applied 1); parts = Own 0 ∷ [] } ∷ []))

-- a comparison is a form of its own
abbrev pub carry : List ℕ → Outcome Word → Option Answer
carry input (mean.Comes r) = Some (carry_plain input r)
carry input (mean.Gives v) = Some (answers input (Gives v))
carry input (mean.Assigns a v) = Some (answers input (Sets a v))
carry input (mean.Compares v w t) = None

abbrev pub unless_equal : mean.Kind → Option Answer → Option Answer
unless_equal (mean.IsEqual t) o = None
unless_equal kind o = o

-- the meaning for a machine of so many blocks
abbrev pub answer : List (List ℕ) → Cells → ℕ → List ℕ → Primitive → List Word → Option Answer
answer texts cells most input f ws = unless_equal (mean.kind_of f) (meaning (see texts cells) most input f ws >>= carry input)

-- ---- Blocks in a group, where block k stands at an address

abbrev pub part_word : (ℕ → ℕ) → Part → Word
part_word place (Old w) = w
part_word place (Own k) = At (place k)

abbrev pub grown : (ℕ → ℕ) → Growing → Cell
grown place g = record { sort = g.sort; fields = map (part_word place) g.parts }
