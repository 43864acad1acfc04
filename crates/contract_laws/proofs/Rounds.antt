-- Rounds compose.
use Rattle.std.proofs.Common.{◌≡◌, ℕ, ◌≤◌, List, false}
use Rattle.smlc_base.specs.declared.point.Point.{Point}
use Rattle.simulation.specs.Keeps.{Keeps, KeepsTidy}
use Rattle.simulation.proofs.Compose.{keeps_refl, keeps_trans}
use Rattle.simulation.proofs.Stores.{plain_run}
use Rattle.cps_ir.specs.Code.{Code, Tree}
use Rattle.cps_ir.specs.Free.{labels}
use Rattle.cps_ir.specs.Run.{cps_machine, start_cps, cps_run}
use Rattle.contract_laws.specs.Contract.{Contracts, start, Rounds, done, round}
use Rattle.contract_laws.proofs.Prims.{prims_keep}
use Rattle.contract_laws.proofs.Reaches.{no_record}
use Rattle.contract_laws.proofs.Tests.{tests_keep}
use Rattle.contract_laws.proofs.Compare.{equals_keep}
use Rattle.contract_laws.specs.Law.{with_code, ContractionKeeps, ContractionIsAPass}
use Rattle.contract_laws.proofs.Keep.{contracted_keeps}

-- Any number of rounds keep the program.
pub rounds_keep : (q : Tree) (c e : Code) → Rounds q.texts c e → (input : List ℕ) → Keeps (cps_run (with_code q c) input) (cps_run (with_code q e) input)
rounds_keep q c e (done d) input = keeps_refl (cps_run (with_code q d) input) (plain_run false (cps_machine (with_code q d)) (labels d) (start_cps d input) no_record)
rounds_keep q c₀ e₀ (round w c d e k few r) input =
    keeps_trans false (cps_run (with_code q c) input) (cps_run (with_code q d) input) (cps_run (with_code q e) input)
    (contracted_keeps (with_code q c) w d (prims_keep (with_code q c) (labels d)) (tests_keep (with_code q c) (labels d)) (equals_keep (with_code q c) (labels d)) k few input) (rounds_keep q d e r input)

-- so they are a pass among others, as `every_pass_keeps` takes it
pub contract_is_a_pass : (q : Tree) (c e : Code) → Rounds q.texts c e → (input : List ℕ) → KeepsTidy false (cps_run (with_code q c) input) (cps_run (with_code q e) input)
contract_is_a_pass q c e r input sound tidy = rounds_keep q c e r input sound

pub contraction_keeps : ContractionKeeps
contraction_keeps = rounds_keep

pub contraction_is_a_pass : ContractionIsAPass
contraction_is_a_pass = contract_is_a_pass
