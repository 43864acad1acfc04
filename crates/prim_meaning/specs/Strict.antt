-- Tests that look at values of their kind alone, along ways that lead somewhere. A typed program has no others.
use Rattle.std.specs.Prelude.{ℕ, ℤ, Bool, true, false, not, cond, ◌&&◌, List, [], ◌∷◌, Option, Some, None, nat_eq, bytes_eq}
use Rattle.std.specs.Ordering.{int_eq}
use Rattle.std.specs.Option.{is_some}
use Rattle.smlc_base.specs.declared.match_tests.Named.{Named}
use Rattle.prim_meaning.specs.Data.{code_of}
use Rattle.prim_meaning.specs.Meaning.{Seen, Scalar, Text, Applied, Packet, Opaque}
use Rattle.prim_meaning.specs.Tests.{Which, same_names, is_number, Wanted, Num, Tag, Bytes, Exn, Never, Trial, Case, walk}

-- each of these answers nothing for a value of another kind

abbrev pub scalar_met : {V : Type 0} → ℤ → Seen V → Option Bool
scalar_met z (Scalar m) = Some (int_eq z m)
scalar_met z _ = None

abbrev pub number_met : {V : Type 0} → ℕ → Seen V → Option Bool
number_met n (Scalar z) = Some (is_number n (code_of z))
number_met n (Applied a m v) = Some (nat_eq n m)
number_met n _ = None

abbrev pub bytes_met : {V : Type 0} → List ℕ → Seen V → Option Bool
bytes_met bs (Text cs) = Some (bytes_eq bs cs)
bytes_met bs _ = None

-- An exception has an argument always or never: where it is the same one, the value is as it is asked for.
abbrev pub flagged : Bool → Bool → Option Bool
flagged as_asked true = cond as_asked (Some true) None
flagged as_asked false = Some false

-- a test and those behind it, which are looked at only where it holds
abbrev pub met_then : Option Bool → Option Bool → Option Bool
met_then (Some true) later = later
met_then (Some false) later = Some false
met_then None later = None

-- where the tests hold the names are read, and else the next rule is tried
abbrev pub met_or : Option Bool → Bool → Bool → Bool
met_or (Some true) named later = named
met_or (Some false) named later = later
met_or None named later = false

-- a comparison has an answer for it
abbrev pub is_seen : {V : Type 0} → Seen V → Bool
is_seen Opaque = false
is_seen (Packet x v) = false
is_seen _ = true

module _ {V : Type 0} (see : V → Seen V) where
  -- each way leads somewhere
  abbrev pub lead : V → List Named → Bool
  lead v [] = true
  lead v (n ∷ names) = is_some (walk see v n.path) && lead v names

-- `is_name` says which values are exception names
module _ {V : Type 0} (see : V → Seen V) (which : V → Option Which) (is_name : V → Bool) where
  abbrev pub name_met : V → Bool → V → Seen V → Option Bool
  name_met x applied v (Packet y w) = cond (is_name y) (flagged applied (same_names (which x) (which y))) None
  name_met x applied v s = cond (is_name v) (flagged (not applied) (same_names (which x) (which v))) None

  -- whether a value of this kind is as it is wanted
  abbrev pub met : Wanted V → V → Option Bool
  met (Num z) v = scalar_met z (see v)
  met (Tag n) v = number_met n (see v)
  met (Bytes bs) v = bytes_met bs (see v)
  met (Exn x applied) v = cond (is_name x) (name_met x applied v (see v)) None
  met Never v = None

  abbrev pub met_at : Wanted V → Option V → Option Bool
  met_at want None = None
  met_at want (Some v) = met want v

  abbrev pub all_met : V → List (Trial V) → Option Bool
  all_met v [] = Some true
  all_met v (t ∷ tests) = met_then (met_at t.want (walk see v t.path)) (all_met v tests)

  -- the tests of one rule, and its names where they hold
  abbrev pub rule_met : List (Trial V) → List Named → V → Bool
  rule_met tests names v = met_or (all_met v tests) (lead see v names) true

  -- those of the rules up to the first that is chosen
  abbrev pub cases_met : List (Case V) → V → Bool
  cases_met [] v = true
  cases_met (c ∷ cases) v = met_or (all_met v c.tests) (lead see v c.names) (cases_met cases v)
