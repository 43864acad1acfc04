-- What a machine shows: its state, and the exit or the trap that it came to.
use Rattle.std.specs.Prelude.{Option}
use Rattle.rv_machine.specs.declared.hart.End.{End}
use Rattle.rv_machine.specs.State.{State}

pub record Progress : Type 0 where
  pub state : State
  pub ended : Option End
