use Rattle.std.specs.Prelude.{take}
use Rattle.closed_functions.specs.Round.{IsRound}
use Rattle.closed_functions.proofs.rounds.one_round.Given as goal

abbrev pub invariant-loop-layout : goal.invariant-loop-layout
invariant-loop-layout l = IsRound l.layouts (take l.layout-index l.layouts) l.fn.set.keys l.set.keys l.fell
