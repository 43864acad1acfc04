-- What contraction keeps.
use Rattle.std.specs.Prelude.{ℕ, List, false}
use Rattle.simulation.specs.Keeps.{Keeps, KeepsTidy}
use Rattle.cps_ir.specs.Code.{Code, Tree}
use Rattle.cps_ir.specs.Run.{cps_run}
use Rattle.contract_laws.specs.Contract.{Rounds}

-- the program with this body
abbrev pub with_code : Tree → Code → Tree
with_code q c = record { code = c; sites = q.sites; texts = q.texts; exns = q.exns }

-- any number of rounds keep the program
abbrev pub ContractionKeeps : Type 0
ContractionKeeps = (q : Tree) (c e : Code) → Rounds q.texts c e → (input : List ℕ) → Keeps (cps_run (with_code q c) input) (cps_run (with_code q e) input)

-- and are a pass among others
abbrev pub ContractionIsAPass : Type 0
ContractionIsAPass = (q : Tree) (c e : Code) → Rounds q.texts c e → (input : List ℕ) → KeepsTidy false (cps_run (with_code q c) input) (cps_run (with_code q e) input)
