-- The tests of a program, as the machine has them.
use Rattle.std.specs.Prelude.{ℕ, Bool, List, Option, map}
use Rattle.smlc_base.specs.declared.match_tests.Test.{Test}
use Rattle.smlc_base.specs.declared.match_tests.Named.{Named}
use Rattle.prim_meaning.specs.Meaning.{Seen}
use Rattle.prim_meaning.specs.Tests as mean
use Rattle.prim_meaning.specs.Tests.{Scope, Trial, trial}
use Rattle.prim_meaning.specs.Strict.{rule_met, cases_met}
use Rattle.sml_def.specs.Builtin.{which}
use Rattle.sml_def.specs.State.{Value, Library, Env, look}
use Rattle.lambda_ir.specs.declared.term.Case.{Case}

abbrev pub scope_of : List (List ℕ) → Env → Scope Value
scope_of texts env = record { texts = texts; value_of = look env; library = Library }

module _ (texts : List (List ℕ)) (env : Env) where
  abbrev pub trials : List Test → List (Trial Value)
  trials tests = map (trial (scope_of texts env)) tests

  abbrev pub tried_of : Case → mean.Case Value
  tried_of c = record { tests = trials c.tests; names = c.names; body = c.body }

  module _ (see : Value → Seen Value) where
    -- what one rule binds, where it is chosen
    abbrev pub chosen : List Test → List Named → Value → Option Env
    chosen tests names v = mean.chosen see which (trials tests) names v

    -- the first rule all of whose tests hold, with what it binds
    abbrev pub first_case : List Case → Value → Option (Env × ℕ)
    first_case cases v = mean.first_case see which (map tried_of cases) v

    module _ (is_name : Value → Bool) where
      -- tests look at values of their kind, and the names of a chosen rule lead somewhere
      abbrev pub bind_met : List Test → List Named → Value → Bool
      bind_met tests names v = rule_met see which is_name (trials tests) names v

      abbrev pub match_met : List Case → Value → Bool
      match_met cases v = cases_met see which is_name (map tried_of cases) v
