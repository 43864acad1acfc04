-- What holds of the tests of a match.
use Rattle.std.proofs.Common.{◌≡◌, ℕ, List, sym, subst, map}
use Rattle.smlc_base.specs.declared.match_tests.RuleTests.{RuleTests}
use Rattle.sml_tree.specs.declared.bare.Bare.{Bare}
use Rattle.sml_tree.specs.IsBare.{IsBare}
use Rattle.sml_types.specs.declared.tables.TypeName.{TypeName}
use Rattle.match_laws.specs.Compile.{rule_of}
use Rattle.match_laws.specs.Law.{Choose, AreMet}
use Rattle.match_laws.proofs.ByType.{tests_choose_by_type, tests_are_met_by_type}
use Rattle.match_compile.specs.Contract.{AreTestsOf}

pub are_tests : (p : Bare) → IsBare p → (ts : List TypeName) (pats : List ℕ) (tests : List RuleTests) → tests ≡ map (rule_of ts p.nodes) pats → AreTestsOf p ts pats tests
are_tests p bare ts pats tests e = record {
  are = e;
  choose = subst (Choose p pats) (sym e) (tests_choose_by_type p bare ts pats);
  met = subst (AreMet p pats) (sym e) (tests_are_met_by_type p bare ts pats);
}
