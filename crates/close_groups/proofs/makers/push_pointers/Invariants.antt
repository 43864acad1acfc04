use Rattle.std.proofs.Common.{◌≡◌, ◌++◌, map, take}
use Rattle.close_steps.specs.Visible.{visible, hand_in}
use Rattle.close_groups.specs.Group.{pointed}
use Rattle.close_groups.proofs.makers.push_pointers.Given as goal

abbrev pub invariant-loop-class : goal.invariant-loop-class
invariant-loop-class l = l.fields ≡ l.fn.fields ++ map (λ k. pointed (hand_in (visible l.scopes l.environment) k)) (take l.class-index l.classes)
