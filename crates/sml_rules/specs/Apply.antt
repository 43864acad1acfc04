-- APPLY(b, v) (6.4, Basic Values): the primitives on their arguments. What they make of data is said once for every machine, in `prim_meaning`.
use Rattle.std.specs.Prelude.{ℕ, zero, pos, Bool, true, false, not, cond, ◌&&◌, List, [], ◌∷◌, ◌++◌, Option, Some, None, nat_eq, map, set, bytes_eq}
use Rattle.std.specs.Ordering.{int_eq}
use Rattle.smlc_base.specs.declared.primitive.Primitive.{Primitive}
use Rattle.smlc_base.specs.declared.primitive.Primitive.TheVariants as prim
use Rattle.smlc_base.specs.declared.exception.LibraryExn.{LibraryExn}
use Rattle.prim_meaning.specs.Data as dat
use Rattle.prim_meaning.specs.Data.{Datum, AScalar, AText, Other, Plain, code_of, plain}
use Rattle.prim_meaning.specs.Meaning.{takes_one, consed}
use Rattle.sml_def.specs.Builtin.{exn_of}
use Rattle.sml_rules.specs.Terms.{Term, Number, Letter, Text, Record, Tag, Applied, Builtin, Library, Cell, Terms, no_terms, more_terms, State, Result, Gives, Raises, Stuck, given}
use Rattle.sml_rules.specs.Patterns.{content_of, record_fields}

abbrev pub truth : Bool → Term
truth t = Tag (cond t 1 0)

abbrev pub raising : LibraryExn → State → Result Term
raising e s = Raises (Library e) s

-- ---- Data

-- A value as far as it is a datum. Types tell data apart, so that no basic value has to.
abbrev pub datum : Term → Datum
datum (Number z) = AScalar z
datum (Letter c) = AScalar (pos c)
datum (Text bytes) = AText bytes
datum (Record no_terms) = AScalar (pos zero)
datum (Tag n) = AScalar (pos n)
datum (Builtin prim.StdIn) = AScalar (pos zero)
datum v = Other

-- what comes of data, as a value, a packet, and what is done to the state
abbrev pub carried : Plain → State → Result Term
carried (dat.ANumber z) s = Gives (Number z) s
carried (dat.ALetter c) s = Gives (Letter c) s
carried (dat.ATag n) s = Gives (Tag n) s
carried (dat.AString bytes) s = Gives (Text bytes) s
carried (dat.Fails f) s = raising (exn_of f) s
carried (dat.Writes bytes) s =
    Gives (Record no_terms) (record { memory = s.memory; names = s.names; input = s.input; output = s.output ++ bytes })
carried (dat.ALine line left) s =
    Gives (Applied 1 (Text line)) (record { memory = s.memory; names = s.names; input = left; output = s.output })

-- ---- Equality

abbrev pub same_datum : Datum → Datum → Bool
same_datum (AScalar x) (AScalar y) = int_eq x y
same_datum (AText bs) (AText cs) = bytes_eq bs cs
same_datum _ _ = false

-- Whether two values of one type that admits equality are identical: records and applied constructors part by part, references by their
-- addresses, and data. Two records of one type have the same labels.
abbrev mutual
  pub equal : Term → Term → Bool
  equal (Record (more_terms t ts)) (Record (more_terms u us)) = equal t u && all_equal ts us
  equal (Applied m t) (Applied n u) = nat_eq m n && equal t u
  equal (Cell m) (Cell n) = nat_eq m n
  equal t u = same_datum (datum t) (datum u)

  pub all_equal : Terms → Terms → Bool
  all_equal (more_terms t ts) (more_terms u us) = equal t u && all_equal ts us
  all_equal _ _ = true

-- ---- References

-- s + {a ↦ v} (rule 100)
abbrev pub assigned : ℕ → Term → State → Result Term
assigned n v s = Gives (Record no_terms) (record { memory = set s.memory n v; names = s.names; input = s.input; output = s.output })

abbrev pub assign : Term → Term → State → Result Term
assign (Cell n) v s = assigned n v s
assign _ v s = Stuck s

-- ---- Lists of characters

abbrev pub letter_of : Datum → Option ℕ
letter_of (AScalar z) = code_of z
letter_of _ = None

-- nil is a scalar
abbrev pub no_letters : Datum → Option (List ℕ)
no_letters (AScalar z) = Some []
no_letters _ = None

abbrev mutual
  pub letters : Term → Option (List ℕ)
  letters (Applied n v) = cond (nat_eq n 1) (letters_pair v) None
  letters v = no_letters (datum v)

  pub letters_pair : Term → Option (List ℕ)
  letters_pair (Record (more_terms c (more_terms t no_terms))) = consed (letter_of (datum c)) (letters t)
  letters_pair _ = None

-- ---- Basic values

-- a basic value on its arguments
abbrev pub applied_to : Primitive → List Term → State → Result Term
applied_to prim.Equal (v ∷ w ∷ []) s = Gives (truth (equal v w)) s
applied_to prim.Unequal (v ∷ w ∷ []) s = Gives (truth (not (equal v w))) s
applied_to prim.Deref (v ∷ []) s = given (content_of s.memory v) Gives s
applied_to prim.Assign (v ∷ w ∷ []) s = assign v w s
applied_to prim.Implode (v ∷ []) s = given (letters v) (λ bytes. Gives (Text bytes)) s
applied_to f args s = given (plain s.input f (map datum args)) carried s

-- the arguments in a value: itself, or the fields of a record
abbrev pub arguments : Bool → Term → Option (List Term)
arguments true v = Some (v ∷ [])
arguments false v = record_fields v

abbrev pub builtin : Primitive → Term → State → Result Term
builtin f v s = given (arguments (takes_one f) v) (applied_to f) s
