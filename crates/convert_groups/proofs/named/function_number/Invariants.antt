use Rattle.std.proofs.Common.{◌≡◌, ◌-◌, length}
use Rattle.convert_groups.specs.Groups.{function_number}
use Rattle.convert_groups.proofs.named.function_number.Given as goal

abbrev pub invariant-loop-inner : goal.invariant-loop-inner
invariant-loop-inner l = function_number l.terms l.at ≡ function_number l.terms l.term

abbrev pub decreases-loop-inner : goal.decreases-loop-inner
decreases-loop-inner l = length l.terms - l.at
