use Rattle.std.proofs.Common.{◌≡◌, map, take}
use Rattle.close_steps.specs.Visible.{visible, places_in}
use Rattle.close_groups.specs.Group.{record_in}
use Rattle.close_groups.proofs.makers.records.Given as goal

abbrev pub invariant-loop-class : goal.invariant-loop-class
invariant-loop-class l = l.makers ≡ map (record_in l.decisions (places_in l.decisions (visible l.scopes l.environment))) (take l.class-index l.classes)
