use Rattle.std.proofs.Common.{◌≡◌, ◌+◌, drop}
use Rattle.convert_laws.specs.Convert.{size_parts}
use Rattle.convert_decide.specs.Table.{fact_in}
use Rattle.convert_decide.proofs.sizes.parts_size.Given as goal

abbrev pub invariant-loop-part : goal.invariant-loop-part
invariant-loop-part l =
    l.total + size_parts (λ c. (fact_in l.facts c).size) (drop l.part-index l.parts) ≡ size_parts (λ c. (fact_in l.facts c).size) l.parts
