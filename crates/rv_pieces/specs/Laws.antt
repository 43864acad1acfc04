-- Laws of pieces of code.
use Rattle.std.specs.Prelude.{◌≡◌, ℕ, ◌<◌, List, ◌++◌, None}
use Rattle.smlc_base.specs.declared.point.Point.{Point}
use Rattle.simulation.specs.Runs.{visible}
use Rattle.simulation.specs.Machines.{state_at, SteadyAt}
use Rattle.rv_run.specs.Run.{Spot, risc}
use Rattle.rv_acts.specs.Emitted.{Emitted, IsQuiet}
use Rattle.rv_acts.specs.Fine.{Fine}
use Rattle.rv_acts.specs.Act.{put, go}
use Rattle.rv_acts.specs.Trip.{Trip, Holds}
use Rattle.rv_acts.specs.Laws.{TripDone}

-- two acts lead to the place, and x31 is lost
pub record Jumped (I : Emitted) (place : ℕ) (a : Fine) : Type 0 where
  pub lost : ℕ
  pub trip : Trip I (IsQuiet I) 2 a (go place (put 31 lost a))

-- two acts leave the address in the register
pub record Addressed (I : Emitted) (rd address : ℕ) (a : Fine) : Type 0 where
  pub lost : ℕ
  pub trip : Trip I (IsQuiet I) 2 a (put rd address (put rd lost a))

-- Up to step n nothing is passed, no output and no block is taken back, and then the arena has these words and more.
pub record RouteWalked (I : Emitted) (labels : List Point) (ws : List ℕ) (n : ℕ) (c : Fine) (s : Spot) : Type 0 where
  pub done : TripDone I n c s
  pub calm : (k : ℕ) → k < n → (visible labels ((risc I.entries).pass (state_at (risc I.entries) s k)) ≡ None) × SteadyAt (risc I.entries) (state_at (risc I.entries) s k)
  pub more : List ℕ
  pub holds : Holds I (ws ++ more) c
