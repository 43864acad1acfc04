use Rattle.std.proofs.Common.{◌≡◌, ◌+◌, drop}
use Rattle.convert_laws.specs.Convert.{size_binds}
use Rattle.convert_decide.specs.Table.{fact_in}
use Rattle.convert_decide.proofs.sizes.binds_size.Given as goal

abbrev pub invariant-loop-bind : goal.invariant-loop-bind
invariant-loop-bind l =
    l.total + size_binds (λ c. (fact_in l.facts c).size) (drop l.bind-index l.binds) ≡ size_binds (λ c. (fact_in l.facts c).size) l.binds
