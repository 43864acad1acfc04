use Rattle.std.proofs.Common.{◌≡◌, map, take}
use Rattle.close_steps.specs.Visible.{visible, places_in}
use Rattle.close_steps.specs.Lowered.{rule_lowered}
use Rattle.close_steps.proofs.ends.rules.Given as goal

abbrev pub invariant-loop-one : goal.invariant-loop-one
invariant-loop-one l = l.all ≡ map (rule_lowered (places_in l.decisions (visible l.scopes l.environment))) (take l.one-index l.rules)
