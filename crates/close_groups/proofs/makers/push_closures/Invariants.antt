use Rattle.std.proofs.Common.{◌≡◌, ◌++◌, take}
use Rattle.close_steps.specs.Visible.{visible, places_in, hand_in}
use Rattle.close_groups.specs.Group.{closures_in}
use Rattle.close_groups.proofs.makers.push_closures.Given as goal

abbrev pub invariant-loop-name : goal.invariant-loop-name
invariant-loop-name l =
    l.makers ≡ l.fn.makers ++ closures_in l.decisions (places_in l.decisions (visible l.scopes l.environment)) (hand_in (visible l.scopes l.environment)) (take l.name-index l.names)
