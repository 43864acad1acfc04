use Rattle.std.specs.Prelude.{◌≡◌, drop}
use Rattle.contract_round.specs.Round.{at_end}
use Rattle.contract_known.specs.Known.{made_at}
use Rattle.contract_known.proofs.blocks.at_end.Given as goal

abbrev pub invariant-loop-step : goal.invariant-loop-step
invariant-loop-step l = at_end (made_at l.blocks l.root) l.at (drop l.step-index l.path) ≡ at_end (made_at l.blocks l.root) l.fn.atom l.path
