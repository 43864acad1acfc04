use Rattle.std.proofs.Common.{◌≡◌, ◌+◌, drop}
use Rattle.convert_laws.specs.Convert.{size_group}
use Rattle.convert_decide.specs.Table.{fact_in}
use Rattle.convert_decide.proofs.sizes.group_size.Given as goal

abbrev pub invariant-loop-binding : goal.invariant-loop-binding
invariant-loop-binding l =
    l.total + size_group (λ c. (fact_in l.facts c).size) (drop l.binding-index l.bindings) ≡ size_group (λ c. (fact_in l.facts c).size) l.bindings
