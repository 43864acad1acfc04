use Rattle.std.proofs.Common.{length, drop, ◌-◌, ◌≡◌}
use Rattle.contract_steps.specs.Steps.{put_arguments}
use Rattle.contract_steps.proofs.calls.put_arguments.Given as goal

abbrev pub invariant-loop-i : goal.invariant-loop-i
invariant-loop-i l = put_arguments (drop l.i l.params) (drop l.i l.atoms) l.places.items ≡ put_arguments l.params l.atoms l.fn.places.items

abbrev pub decreases-loop-i : goal.decreases-loop-i
decreases-loop-i l = length l.params - l.i
