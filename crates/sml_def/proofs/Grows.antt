-- A run takes back no output and no block.
use Rattle.std.proofs.Common.{◌≡◌, ℕ, [], suc, ◌≤◌, Some, None, sym, ap, subst, ⊎_elim}
use Rattle.simulation.specs.Blocks.{Grows}
use Rattle.simulation.specs.Machines.{Machine, next_of, state_at, IsSteady}
use Rattle.simulation.specs.Stores.{machine_of}
use Rattle.simulation.proofs.Blocks.{grows_refl, grows_trans}
use Rattle.simulation.proofs.Lists.{option_cases}
use Rattle.simulation.proofs.Simulation.{from_on}
use Rattle.simulation.proofs.Machines.{run_tells}
use Rattle.simulation.proofs.Stores.{store_steady}
use Rattle.sml_def.specs.Run.{source, start}
use Rattle.sml_def.specs.Laws.{RunsOnlyGrow}

module _ {S : Type 0} (M : Machine S) (s : S) (steady : IsSteady M) where
  makes_once : (n : ℕ) → Grows (M.memory (state_at M s n)) (M.memory (state_at M s (suc n)))
  makes_once n =
      ⊎_elim
      (λ (e : M.step (state_at M s n) ≡ None). subst (λ t. Grows (M.memory (state_at M s n)) (M.memory t)) (sym (ap (next_of (state_at M s n)) e)) (grows_refl (M.memory (state_at M s n))))
      (λ (h : (t : S) × (M.step (state_at M s n) ≡ Some t)). subst (λ t. Grows (M.memory (state_at M s n)) (M.memory t)) (sym (ap (next_of (state_at M s n)) h.1)) (steady (state_at M s n) h.0 h.1).1)
      (option_cases (M.step (state_at M s n)))

  pub run_makes : (i j : ℕ) → i ≤ j → Grows (M.memory (state_at M s i)) (M.memory (state_at M s j))
  run_makes i =
      from_on (λ j. Grows (M.memory (state_at M s i)) (M.memory (state_at M s j))) i (grows_refl (M.memory (state_at M s i))) (λ j l h. grows_trans (M.memory (state_at M s i)) (M.memory (state_at M s j)) (M.memory (state_at M s (suc j))) h (makes_once j))

pub runs_only_grow : RunsOnlyGrow
runs_only_grow p input m n le = record {
  out = run_tells (machine_of (source p)) [] (start input) (store_steady (source p)) m n le;
  memory = run_makes (machine_of (source p)) (start input) (store_steady (source p)) m n le;
}
