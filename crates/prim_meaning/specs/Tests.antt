-- Tests of a value, and the case that they choose.
use Rattle.std.specs.Prelude.{ℕ, ℤ, Bool, true, false, ◌&&◌, cond, List, [], ◌∷◌, Option, Some, None, nat_eq, slice_get, bytes_eq, map}
use Rattle.std.specs.Ordering.{int_eq}
use Rattle.smlc_base.specs.declared.exception.LibraryExn.{LibraryExn}
use Rattle.smlc_base.specs.declared.match_tests.Want.{Want}
use Rattle.smlc_base.specs.declared.match_tests.Want.TheVariants as want
use Rattle.smlc_base.specs.declared.match_tests.Test.{Test}
use Rattle.smlc_base.specs.declared.match_tests.Named.{Named}
use Rattle.smlc_base.specs.declared.match_tests.RuleTests.{RuleTests}
use Rattle.prim_meaning.specs.Data.{code_of}
use Rattle.prim_meaning.specs.Meaning.{Seen, Scalar, Text, Tuple, Applied, Cell, Packet}

-- which exception name: one that stands at an address, or one of the library
pub data Which : Type 0 where
  Declared : (address : ℕ) → Which
  OfLibrary : (number : ℕ) → Which

-- What a test wants, with the bytes and the exception name that a machine has for it.
pub data Wanted (V : Type 0) : Type 0 where
  Num : ℤ → Wanted V
  Tag : (number : ℕ) → Wanted V
  Bytes : List ℕ → Wanted V
  -- this exception name, or a packet of that name
  Exn : (name : V) (applied : Bool) → Wanted V
  -- what a machine doesn't find, no value is
  Never : Wanted V

-- a way into a value, and what is wanted at its end
pub record Trial (V : Type 0) : Type 0 where
  pub path : List ℕ
  pub want : Wanted V

pub record Case (V : Type 0) : Type 0 where
  pub tests : List (Trial V)
  pub names : List Named
  pub body : ℕ

-- What a machine has at a match: the string constants by number, what names stand for, and the library's exceptions as values.
pub record Scope (V : Type 0) : Type 0 where
  pub texts : List (List ℕ)
  pub value_of : ℕ → Option V
  pub library : LibraryExn → V

abbrev pub bytes_wanted : {V : Type 0} → Option (List ℕ) → Wanted V
bytes_wanted (Some bytes) = Bytes bytes
bytes_wanted None = Never

abbrev pub name_wanted : {V : Type 0} → Bool → Option V → Wanted V
name_wanted applied (Some v) = Exn v applied
name_wanted applied None = Never

module _ {V : Type 0} (scope : Scope V) where
  -- what is wanted of a value, as a machine has it
  abbrev pub wanted : Want → Wanted V
  wanted (want.Num z) = Num z
  wanted (want.Tag t) = Tag t.number
  wanted (want.Text t) = bytes_wanted (slice_get scope.texts t)
  wanted (want.Exn x applied) = name_wanted applied (scope.value_of x.0)
  wanted (want.Library e applied) = Exn (scope.library e) applied

  abbrev pub trial : Test → Trial V
  trial t = record { path = t.path; want = wanted t.want }

  -- a rule of a match with its body
  abbrev pub case_of : RuleTests → ℕ → Case V
  case_of r body = record { tests = map trial r.tests; names = r.names; body = body }

-- ---- Ways

-- The fields of a block in the order of its words behind the header, which the steps of a `Path` count. A packet has its name in front of its argument.
abbrev pub fields_in : {V : Type 0} → Seen V → List V
fields_in (Tuple fields) = fields
fields_in (Applied a n v) = v ∷ []
fields_in (Cell a v) = v ∷ []
fields_in (Packet x v) = x ∷ v ∷ []
fields_in _ = []

-- ---- Wants

-- a scalar is that of a constructor's number
abbrev pub is_number : ℕ → Option ℕ → Bool
is_number n (Some m) = nat_eq n m
is_number n None = false

abbrev pub same_which : Which → Which → Bool
same_which (Declared a) (Declared b) = nat_eq a b
same_which (OfLibrary m) (OfLibrary n) = nat_eq m n
same_which _ _ = false

-- two values name the same exception
abbrev pub same_names : Option Which → Option Which → Bool
same_names (Some x) (Some y) = same_which x y
same_names _ _ = false

abbrev pub has_number : {V : Type 0} → ℕ → Seen V → Bool
has_number n (Scalar z) = is_number n (code_of z)
has_number n (Applied a m v) = nat_eq n m
has_number n _ = false

abbrev pub is_scalar : {V : Type 0} → ℤ → Seen V → Bool
is_scalar z (Scalar m) = int_eq z m
is_scalar z _ = false

abbrev pub has_bytes : {V : Type 0} → List ℕ → Seen V → Bool
has_bytes bs (Text cs) = bytes_eq bs cs
has_bytes bs _ = false

abbrev pub chosen_or : {V : Type 0} → Option (List (ℕ × V)) → ℕ → Option (List (ℕ × V) × ℕ) → Option (List (ℕ × V) × ℕ)
chosen_or None body later = later
chosen_or (Some env) body later = Some (env, body)

module _ {V : Type 0} (see : V → Seen V) where
  abbrev pub field_at : Option V → ℕ → Option V
  field_at None i = None
  field_at (Some v) i = slice_get (fields_in (see v)) i

  -- what stands at the end of a way
  abbrev pub along : List ℕ → Option V → Option V
  along [] o = o
  along (i ∷ steps) o = along steps (field_at o i)

  -- what stands at the end of a way into a value
  abbrev pub walk : V → List ℕ → Option V
  walk v steps = along steps (Some v)

  abbrev pub read_one : ℕ → Option V → List (ℕ × V) → List (ℕ × V)
  read_one x None env = env
  read_one x (Some w) env = (x, w) ∷ env

  -- names with their values
  abbrev pub read : V → List Named → List (ℕ × V)
  read v [] = []
  read v (n ∷ names) = read_one n.name.0 (walk v n.path) (read v names)

  -- the exception name of a packet, which is the packet itself where it has no argument
  abbrev pub name_in : V → Seen V → V
  name_in v (Packet x w) = x
  name_in v _ = v

  -- `which` says what exception a value would name. It doesn't look at what stands there: no machine has to.
  module _ (which : V → Option Which) where
    -- a packet has this name
    abbrev pub is_packet_of : Option Which → Seen V → Bool
    is_packet_of x (Packet y v) = same_names x (which y)
    is_packet_of x _ = false

    abbrev pub is_wanted : Wanted V → V → Bool
    is_wanted (Num z) w = is_scalar z (see w)
    is_wanted (Tag n) w = has_number n (see w)
    is_wanted (Bytes bs) w = has_bytes bs (see w)
    is_wanted (Exn x applied) w = cond applied (is_packet_of (which x) (see w)) (same_names (which x) (which w))
    is_wanted Never w = false

    abbrev pub holds_at : Wanted V → Option V → Bool
    holds_at want None = false
    holds_at want (Some w) = is_wanted want w

    abbrev pub all_hold : V → List (Trial V) → Bool
    all_hold v [] = true
    all_hold v (t ∷ tests) = holds_at t.want (walk v t.path) && all_hold v tests

    -- what one rule binds, where it is chosen
    abbrev pub chosen : List (Trial V) → List Named → V → Option (List (ℕ × V))
    chosen tests names v = cond (all_hold v tests) (Some (read v names)) None

    -- the first case all of whose tests hold, with what it binds
    abbrev pub first_case : List (Case V) → V → Option (List (ℕ × V) × ℕ)
    first_case [] v = None
    first_case (c ∷ cases) v = chosen_or (chosen c.tests c.names v) c.body (first_case cases v)
