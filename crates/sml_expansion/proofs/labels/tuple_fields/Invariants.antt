use Rattle.std.proofs.Common.{◌≡◌, ◌++◌, ◌-◌, map}
use Rattle.sml_expansion.specs.Labels.{slot, numbers}
use Rattle.sml_expansion.specs.Bare.{fields}
use Rattle.sml_expansion.proofs.labels.tuple_fields.Given as goal

abbrev pub invariant-loop-slot : goal.invariant-loop-slot
invariant-loop-slot l = l.row ++ map (λ x. record { lab = x; slot = slot (numbers 0 l.count) x; node = 0 }) (numbers l.slot (l.count - l.slot)) ≡ fields (numbers 0 l.count)
