-- Two views that are equal at each value, and know the same exception names, meet tests alike.
use Rattle.std.proofs.Common.{◌≡◌, Bool, List, [], ◌∷◌, Option, Some, None, refl, ap, ◌∙◌}
use Rattle.std.specs.Prelude.{cond, not, ◌&&◌}
use Rattle.std.specs.Option.{is_some}
use Rattle.smlc_base.specs.declared.match_tests.Named.{Named}
use Rattle.prim_meaning.specs.Meaning.{Seen, Scalar, Text, Tuple, Applied, Cell, Packet, Opaque}
use Rattle.prim_meaning.specs.Tests.{Which, same_names, Wanted, Num, Tag, Bytes, Exn, Never, Trial, Case, walk}
use Rattle.prim_meaning.specs.Strict.{scalar_met, number_met, bytes_met, flagged, met_then, met_or, name_met, met, met_at, all_met, lead, cases_met}
use Rattle.prim_meaning.proofs.Pointwise.{along_same}

module _ {V : Type 0} (see look : V → Seen V) (same : (v : V) → look v ≡ see v) (which : V → Option Which) (known is_name : V → Bool) (named : (v : V) → is_name v ≡ known v) where
  name_same : (x : V) (applied : Bool) (v : V) (s : Seen V) → name_met look which is_name x applied v s ≡ name_met see which known x applied v s
  name_same x applied v (Packet y w) = ap (λ b. cond b (flagged applied (same_names (which x) (which y))) None) (named y)
  name_same x applied v (Scalar z) = ap (λ b. cond b (flagged (not applied) (same_names (which x) (which v))) None) (named v)
  name_same x applied v (Text bytes) = ap (λ b. cond b (flagged (not applied) (same_names (which x) (which v))) None) (named v)
  name_same x applied v (Tuple vs) = ap (λ b. cond b (flagged (not applied) (same_names (which x) (which v))) None) (named v)
  name_same x applied v (Applied a n w) = ap (λ b. cond b (flagged (not applied) (same_names (which x) (which v))) None) (named v)
  name_same x applied v (Cell a w) = ap (λ b. cond b (flagged (not applied) (same_names (which x) (which v))) None) (named v)
  name_same x applied v Opaque = ap (λ b. cond b (flagged (not applied) (same_names (which x) (which v))) None) (named v)

  met_same : (want : Wanted V) (v : V) → met look which is_name want v ≡ met see which known want v
  met_same (Num z) v = ap (scalar_met z) (same v)
  met_same (Tag n) v = ap (number_met n) (same v)
  met_same (Bytes bs) v = ap (bytes_met bs) (same v)
  met_same (Exn x applied) v =
      ap (λ b. cond b (name_met look which is_name x applied v (look v)) None) (named x)
      ∙ ap (λ o. cond (known x) o None) (ap (name_met look which is_name x applied v) (same v) ∙ name_same x applied v (see v))
  met_same Never v = refl

  at_same : (want : Wanted V) (o : Option V) → met_at look which is_name want o ≡ met_at see which known want o
  at_same want None = refl
  at_same want (Some v) = met_same want v

  all_same : (v : V) (tests : List (Trial V)) → all_met look which is_name v tests ≡ all_met see which known v tests
  all_same v [] = refl
  all_same v (t ∷ tests) =
      ap (λ o. met_then (met_at look which is_name t.want o) (all_met look which is_name v tests)) (along_same see look same t.path (Some v))
      ∙ ap (λ b. met_then b (all_met look which is_name v tests)) (at_same t.want (walk see v t.path))
      ∙ ap (met_then (met_at see which known t.want (walk see v t.path))) (all_same v tests)

  lead_same : (v : V) (names : List Named) → lead look v names ≡ lead see v names
  lead_same v [] = refl
  lead_same v (n ∷ names) =
      ap (λ o. is_some o && lead look v names) (along_same see look same n.path (Some v)) ∙ ap (λ b. is_some (walk see v n.path) && b) (lead_same v names)

  pub rule_met_same : (tests : List (Trial V)) (names : List Named) (v : V) (later : Bool) → met_or (all_met look which is_name v tests) (lead look v names) later ≡ met_or (all_met see which known v tests) (lead see v names) later
  rule_met_same tests names v later =
      ap (λ o. met_or o (lead look v names) later) (all_same v tests) ∙ ap (λ b. met_or (all_met see which known v tests) b later) (lead_same v names)

  pub cases_met_same : (cases : List (Case V)) (v : V) → cases_met look which is_name cases v ≡ cases_met see which known cases v
  cases_met_same [] v = refl
  cases_met_same (c ∷ cases) v =
      rule_met_same c.tests c.names v (cases_met look which is_name cases v) ∙ ap (met_or (all_met see which known v c.tests) (lead see v c.names)) (cases_met_same cases v)
