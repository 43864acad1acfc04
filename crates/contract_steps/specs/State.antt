-- The state of a round as lists.
use Rattle.std.specs.Prelude.{List, Option}
use Rattle.cps_ir.specs.declared.atom.Atom.{Atom}
use Rattle.cps_ir.specs.declared.body.Body.{Body}
use Rattle.contract_known.specs.declared.blocks.Block.{Block}
use Rattle.contract_group.specs.declared.task.Placed.{Placed}
use Rattle.contract_group.specs.declared.task.Task.{Task}
use Rattle.contract_steps.specs.declared.round.Round.{Round}

pub record State : Type 0 where
  pub places : List Atom
  pub blocks : List (Option Block)
  pub placed : List (Option Placed)
  pub bodies : List Body
  pub work : List Task

abbrev pub state_of : Round → State
state_of r = record { places = r.places.items; blocks = r.blocks.items; placed = r.placed.items; bodies = r.bodies.items; work = r.work.items }
