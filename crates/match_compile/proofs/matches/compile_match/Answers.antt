use Rattle.std.proofs.Common.{◌≡◌, subst, map}
use Rattle.match_laws.specs.Compile.{rule_of}
use Rattle.match_compile.proofs.Whole.{are_tests}
use Rattle.match_compile.proofs.matches.compile_match.Goals as goal

pub returns : goal.returns
returns c = are_tests c.args.bare.now c.requires c.args.tables.now.names c.args.rules.now _ (subst (λ nodes. c.in_ok-tests.tests ≡ map (rule_of c.args.tables.now.names nodes) c.args.rules.now) c.items.ensures c.in_ok-tests.ensures)
