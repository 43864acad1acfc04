use Rattle.std.proofs.Common.{◌≡◌, ◌++◌, map, drop}
use Rattle.match_laws.specs.Compile.{rule_of}
use Rattle.match_compile.proofs.matches.rule_tests.Given as goal

abbrev pub invariant-loop-rule : goal.invariant-loop-rule
invariant-loop-rule l =
    l.found ++ map (rule_of l.tables.names l.nodes) (drop l.rule-index l.rules) ≡ map (rule_of l.tables.names l.nodes) l.rules
