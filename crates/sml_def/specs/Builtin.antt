-- The primitives and comparisons: how the machine sees its values, and how it carries out what the meaning of a primitive comes to.
use Rattle.std.specs.Prelude.{ℕ, suc, pos, Bool, true, false, not, List, [], ◌∷◌, ◌++◌, Option, Some, None, length, slice_get, ◌+◌}
use Rattle.smlc_base.specs.declared.primitive.Primitive.{Primitive}
use Rattle.smlc_base.specs.declared.primitive.Primitive.TheVariants as prim
use Rattle.smlc_base.specs.declared.exception.LibraryExn.{LibraryExn}
use Rattle.smlc_base.specs.declared.exception.LibraryExn.TheVariants as exn
use Rattle.simulation.specs.Stores.{makes}
use Rattle.prim_meaning.specs.Data as dat
use Rattle.prim_meaning.specs.Data.{Failure, Plain}
use Rattle.prim_meaning.specs.Meaning as mean
use Rattle.prim_meaning.specs.Meaning.{Seen, Outcome, Verdict, meaning, takes_one}
use Rattle.prim_meaning.specs.Tests.{Which, Declared, OfLibrary}
use Rattle.sml_def.specs.Maybe.{◌>>=◌}
use Rattle.sml_def.specs.State.{Value, Number, Letter, Nothing, Tag, Constant, Builtin, Library, At, Address, Block, Tuple, Applied, Text, Cell, Packet, Pending, Control, Ret, Raise, Eq, truth}
use Rattle.sml_def.specs.Memory.{Memory, Next, going, making, making_all, assigning, writing}
use Rattle.sml_def.specs.Match.{fields_of}
use Rattle.smlc_base.specs.Exceptions.{exn_number}

abbrev pub raising : LibraryExn → Option Address → Control
raising e k = Raise (Library e) k

-- ---- What the machine's values are

abbrev pub see_text : Option (List ℕ) → Seen Value
see_text (Some bytes) = mean.Text bytes
see_text None = mean.Opaque

abbrev pub see_block : Address → Option Block → Seen Value
see_block a (Some (Tuple fields)) = mean.Tuple fields
see_block a (Some (Applied n v)) = mean.Applied a n v
see_block a (Some (Text bytes)) = mean.Text bytes
see_block a (Some (Cell v)) = mean.Cell a v
see_block a (Some (Packet x v)) = mean.Packet x v
see_block a _ = mean.Opaque

-- the standard input, and the functions
abbrev pub see_builtin : Primitive → Seen Value
see_builtin prim.StdIn = mean.Scalar (pos 0)
see_builtin _ = mean.Opaque

-- with the string constants
abbrev pub see : List (List ℕ) → List Block → Value → Seen Value
see texts store (Number z) = mean.Scalar z
see texts store (Letter c) = mean.Scalar (pos c)
see texts store Nothing = mean.Scalar (pos 0)
see texts store (Tag n) = mean.Scalar (pos n)
see texts store (Constant n) = see_text (slice_get texts n)
see texts store (Builtin f) = see_builtin f
see texts store (At a) = see_block a (slice_get store a)
see texts store _ = mean.Opaque

-- which exception a value names, if it is a name
abbrev pub which : Value → Option Which
which (At a) = Some (Declared a)
which (Library e) = Some (OfLibrary (exn_number e))
which _ = None

-- ---- What the machine does

abbrev pub exn_of : Failure → LibraryExn
exn_of dat.TooLarge = exn.OverflowExn
exn_of dat.ByZero = exn.DivExn
exn_of dat.NoCharacter = exn.ChrExn
exn_of dat.OutOfRange = exn.SubscriptExn

abbrev pub carry_plain : Memory → Option Address → Plain → Next
carry_plain m k (dat.ANumber z) = going m (Ret (Number z) k)
carry_plain m k (dat.ALetter c) = going m (Ret (Letter c) k)
carry_plain m k (dat.ATag n) = going m (Ret (Tag n) k)
carry_plain m k (dat.AString bytes) = making m (Text bytes) (λ a. Ret (At a) k)
carry_plain m k (dat.Fails f) = going m (raising (exn_of f) k)
carry_plain m k (dat.Writes bytes) = writing m bytes (Ret Nothing k)
carry_plain m k (dat.ALine line left) =
    makes
    (record { control = Ret (At (suc (length m.store))) k; input = left })
    (Text line ∷ Applied 1 (At (length m.store)) ∷ [])

abbrev pub carry : Memory → Option Address → Outcome Value → Next
carry m k (mean.Comes r) = carry_plain m k r
carry m k (mean.Gives v) = going m (Ret v k)
carry m k (mean.Assigns a v) = assigning m a v (Ret Nothing k)
carry m k (mean.Compares v w t) = making m (Pending v w None) (λ a. Eq (Some a) t k)

abbrev pub arguments_of : Bool → List Block → Value → Option (List Value)
arguments_of true store v = Some (v ∷ [])
arguments_of false store v = fields_of store v

module _ (texts : List (List ℕ)) (m : Memory) (k : Option Address) where
  -- a primitive on its arguments
  abbrev pub applied : Primitive → List Value → Next
  applied f args = meaning (see texts m.store) (length m.store) m.input f args >>= carry m k

  -- a primitive on its argument
  abbrev pub builtin : Primitive → Value → Next
  builtin f v = arguments_of (takes_one f) m.store v >>= applied f

-- ---- Comparisons

-- the blocks of pairs that are put in front of the pending ones, made from address a on, and the first of them
abbrev pub pend : List (Value × Value) → Option Address → Address → List Block × Option Address
pend [] next a = ([], next)
pend (pair ∷ pairs) next a =
    let rest = pend pairs next a in (rest.0 ++ Pending pair.0 pair.1 rest.1 ∷ [], Some (a + length rest.0))

-- a comparison goes on by the verdict on one pair
abbrev pub by_verdict : Memory → Verdict Value → Option Address → Bool → Option Address → Next
by_verdict m mean.Equal next t k = going m (Eq next t k)
by_verdict m mean.Unequal next t k = going m (Ret (truth (not t)) k)
by_verdict m (mean.AsPairs pairs) next t k =
    let pended = pend pairs next (length m.store) in making_all m pended.0 (Eq pended.1 t k)
