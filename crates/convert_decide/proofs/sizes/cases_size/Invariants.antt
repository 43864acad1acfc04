use Rattle.std.proofs.Common.{◌≡◌, ◌+◌, drop}
use Rattle.convert_laws.specs.Convert.{size_cases}
use Rattle.convert_decide.specs.Table.{fact_in}
use Rattle.convert_decide.proofs.sizes.cases_size.Given as goal

abbrev pub invariant-loop-case : goal.invariant-loop-case
invariant-loop-case l =
    l.total + size_cases (λ c. (fact_in l.facts c).size) (drop l.case-index l.cases) ≡ size_cases (λ c. (fact_in l.facts c).size) l.cases
