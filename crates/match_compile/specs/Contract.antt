-- What the tests of a match are.
use Rattle.std.specs.Prelude.{◌≡◌, ℕ, List, map}
use Rattle.smlc_base.specs.declared.match_tests.RuleTests.{RuleTests}
use Rattle.sml_tree.specs.declared.bare.Bare.{Bare}
use Rattle.sml_types.specs.declared.tables.TypeName.{TypeName}
use Rattle.match_laws.specs.Compile.{rule_of}
use Rattle.match_laws.specs.Law.{Choose, AreMet}

-- Those of each pattern, in order. So they choose the first rule that fits, for each value of the patterns' type, and look at values of their kind.
pub record AreTestsOf (p : Bare) (tables : List TypeName) (pats : List ℕ) (tests : List RuleTests) : Type 0 where
  pub are : tests ≡ map (rule_of tables p.nodes) pats
  pub choose : Choose p pats tests
  pub met : AreMet p pats tests
