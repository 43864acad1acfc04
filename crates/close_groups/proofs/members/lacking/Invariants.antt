use Rattle.std.proofs.Common.{◌≡◌, ◌++◌, drop}
use Rattle.close_steps.specs.Visible.{visible, hand_in}
use Rattle.close_groups.specs.Group.{noted, missing}
use Rattle.close_groups.proofs.members.lacking.Given as goal

abbrev pub invariant-loop-class : goal.invariant-loop-class
invariant-loop-class l =
    l.found.items ++ missing (noted (hand_in (visible l.scopes l.environment)) l.found.items) (drop l.class-index l.needs) ≡ missing (hand_in (visible l.scopes l.environment)) l.needs
