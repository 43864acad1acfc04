-- One step of a round, from what holds in front of it to what holds behind it.
use Rattle.std.specs.Prelude.{ℕ, ◌≤◌, ◌<◌, List, ◌∷◌, length}
use Rattle.std.specs.List.{AllByRecursion}
use Rattle.cps_ir.specs.declared.body.Body.{Body}
use Rattle.cps_ir.specs.Code.{Code, Halt}
use Rattle.contract_census.specs.declared.counts.Count.{Count}
use Rattle.contract_group.specs.declared.task.Task.{Task}
use Rattle.contract_steps.specs.State.{State}
use Rattle.contract_holds.specs.Open.{all_nodes}
use Rattle.contract_holds.specs.Holds.{Holds}
use Rattle.contract_holds.specs.Fits.{slots_of, AreOpen, TasksFit, DoneFit, Fits}

module _ (texts : List (List ℕ)) (source : List Body) (counts : List Count) where
  -- the rest of the body of a task is to be walked
  pub record Ready (t : Task) (c : Code) (s : State) : Type 0 where
    pub holds : Holds source counts c s
    pub slots : AreOpen (t.slot ∷ slots_of s.work) s.bodies
    pub root : t.root < length s.bodies
    pub roots : AllByRecursion (λ u. u.root < length s.bodies) s.work

  -- from one rest to another
  pub record Goes (t : Task) (c : Code) (s : State) (d : Code) (n : State) : Type 0 where
    pub ready : Ready t d n
    pub fits : (P : ℕ → Code) → Fits texts source P n t d → Fits texts source P s t c
    pub less : all_nodes source d n < all_nodes source c s

  -- no body is begun
  pub record Stands (s : State) : Type 0 where
    pub holds : Holds source counts Halt s
    pub slots : AreOpen (slots_of s.work) s.bodies
    pub roots : AllByRecursion (λ u. u.root < length s.bodies) s.work

  -- from the rest of the body of a task to its end
  pub record Stops (t : Task) (c : Code) (s n : State) : Type 0 where
    pub stands : Stands n
    pub fits : (P : ℕ → Code) → TasksFit texts source P n n.work → DoneFit texts source P n (slots_of n.work) → Fits texts source P s t c
    pub less : all_nodes source Halt n ≤ all_nodes source c s
