use Rattle.std.proofs.Common.{◌≡◌, ◌++◌, drop}
use Rattle.match_laws.specs.Compile.{cases_of}
use Rattle.lambda_make.proofs.terms.cases.Given as goal

abbrev pub invariant-loop-rule : goal.invariant-loop-rule
invariant-loop-rule l =
    l.found ++ cases_of l.tables.names l.nodes (drop l.rule-index l.rules) ≡ cases_of l.tables.names l.nodes l.rules
