-- The program of `Lambda` keeps the bare tree's.
use Rattle.std.specs.Prelude.{◌≡◌, ℕ, List}
use Rattle.sml_tree.specs.declared.bare.Bare.{Bare}
use Rattle.sml_tree.specs.IsBare.{IsBare}
use Rattle.sml_types.specs.declared.tables.TypeName.{TypeName}
use Rattle.sml_types.specs.Typing.{Typing, IsTyping}
use Rattle.simulation.specs.Keeps.{Keeps}
use Rattle.simulation.specs.Machines.{state_at}
use Rattle.simulation.specs.Stores.{machine_of}
use Rattle.sml_def.specs.Run.{State, source, start, run}
use Rattle.lambda_ir.specs.Program.{Lambda}
use Rattle.lambda_ir.specs.Kept.{IsProgram}
use Rattle.lambda_ir.specs.Run.{lambda_machine, loose_machine, start_lambda, lambda_run, loose_run}
use Rattle.lambda_laws.specs.Lower.{lower_state}
use Rattle.lambda_laws.specs.Make.{lambda_of}
use Rattle.lambda_laws.specs.Ready.{ControlReady}
use Rattle.sane_laws.specs.Uses.{UsesWell}
use Rattle.lambda_laws.specs.Slim.{IsSlim}

-- each state of the run is ready
abbrev pub RunIsReady : Bare → List ℕ → Type 0
RunIsReady p input = (n : ℕ) → let s : State = state_at (machine_of (source p)) (start input) n in ControlReady p s.store s.control.control

-- For each input the program of `Lambda` keeps the tree's run, where the tree uses its function constants and exceptions well. It does so without this
-- premise, if the machine may also go on from states that aren't proper.
pub record IsKept (p : Bare) (l : Lambda) : Type 0 where
  pub keeps : UsesWell p → (input : List ℕ) → Keeps (run p input) (lambda_run l input)
  pub loosely : (input : List ℕ) → Keeps (run p input) (loose_run l input)
  pub slim : UsesWell p → (input : List ℕ) → IsSlim l input

abbrev pub LambdaKeeps : Type 0
LambdaKeeps = (ts : List TypeName) (p : Bare) → IsBare p → (t : Typing) → IsTyping p t → IsKept p (lambda_of ts p)

abbrev pub LambdaIsProgram : Type 0
LambdaIsProgram = (ts : List TypeName) (p : Bare) → IsBare p → IsProgram (lambda_of ts p)

-- after n steps the state of the one stands for that of the other
pub record GoesInStep (ts : List TypeName) (p : Bare) (input : List ℕ) : Type 0 where
  pub proper : UsesWell p → (n : ℕ) → state_at (machine_of (lambda_machine (lambda_of ts p))) (start_lambda input) n ≡ lower_state ts p.nodes (state_at (machine_of (source p)) (start input) n)
  pub loose : (n : ℕ) → state_at (machine_of (loose_machine (lambda_of ts p))) (start_lambda input) n ≡ lower_state ts p.nodes (state_at (machine_of (source p)) (start input) n)

abbrev pub LambdaGoesInStep : Type 0
LambdaGoesInStep = (ts : List TypeName) (p : Bare) → IsBare p → (t : Typing) → IsTyping p t → (input : List ℕ) → GoesInStep ts p input
