-- A round's loop, from its beginning to its end.
use Rattle.std.specs.Prelude.{◌≡◌, ℕ, ◌<◌, List, [], ◌∷◌, ◌++◌, None, length, get_or}
use Rattle.cps_ir.specs.declared.atom.Atom.TheVariants as atom
use Rattle.cps_ir.specs.Code.{Code, Halt}
use Rattle.cps_ir.specs.Program.{Cps, code_at}
use Rattle.cps_ir.specs.Kept.{IsProgram}
use Rattle.contract_round.specs.Round.{round}
use Rattle.contract_census.specs.declared.counts.Count.{Count}
use Rattle.contract_census.specs.Counted.{IsCensus}
use Rattle.contract_known.specs.Known.{place_of}
use Rattle.contract_rows.specs.Rows.{empty, IsOneTree}
use Rattle.contract_group.specs.declared.task.Task.{Task}
use Rattle.contract_steps.specs.State.{State}
use Rattle.contract_steps.specs.Steps.{task_from, TaskStep}
use Rattle.contract_holds.specs.Open.{all_nodes}
use Rattle.contract_holds.specs.Fits.{slots_of, TasksFit, DoneFit}
use Rattle.contract_holds.specs.Turn.{Stands}

-- with these tasks
abbrev pub with_work : State → List Task → State
with_work s work = record { places = s.places; blocks = s.blocks; placed = s.placed; bodies = s.bodies; work = work }

-- nothing is entered for any of so many variables, and the whole is to be walked
pub record IsBegun (variables : ℕ) (s : State) : Type 0 where
  pub places_length : length s.places ≡ variables
  pub blocks_length : length s.blocks ≡ variables
  pub placed_length : length s.placed ≡ variables
  pub places : (x : ℕ) → place_of s.places x ≡ atom.Var x
  pub blocks : (x : ℕ) → get_or s.blocks x None ≡ None
  pub placed : (x : ℕ) → get_or s.placed x None ≡ None
  pub bodies : s.bodies ≡ empty ∷ []
  pub work : s.work ≡ task_from 0 0 0 ∷ []

module _ (q : Cps) (counts : List Count) where
  -- where the tasks make what is promised of the bodies, body 0 is the walk of the whole
  pub record Follows (s : State) : Type 0 where
    pub stands : Stands q.texts q.bodies counts s
    pub fits : (P : ℕ → Code) → TasksFit q.texts q.bodies P s s.work → DoneFit q.texts q.bodies P s (slots_of s.work) → round q.texts (code_at q.bodies 0) ≡ P 0

abbrev pub RoundBegins : Type 0
RoundBegins = (q : Cps) (counts : List Count) (s : State) → IsProgram q → IsCensus counts (code_at q.bodies 0) → IsBegun q.variables s → Follows q counts s

-- a task keeps it, and less is left to be walked
abbrev pub RoundGoesOn : Type 0
RoundGoesOn = (q : Cps) (counts : List Count) (s n : State) (work : List Task) (t : Task) → IsProgram q → Follows q counts s → s.work ≡ work ++ t ∷ [] → TaskStep q.texts q.bodies counts t (with_work s work) n → Follows q counts n × (all_nodes q.bodies Halt n < all_nodes q.bodies Halt s)

abbrev pub RoundEnds : Type 0
RoundEnds = (q : Cps) (counts : List Count) (s : State) → Follows q counts s → s.work ≡ [] → IsOneTree s.bodies × (code_at s.bodies 0 ≡ round q.texts (code_at q.bodies 0))
