-- What loading files in order comes to.
use Rattle.std.specs.Prelude.{ℕ, ◌≡◌, Bool, true, false, List, length, map, Option}
use Rattle.smlc_edge.specs.Edge.{Files, Fails}
use Rattle.smlc_jobs.specs.declared.load.Loaded.{Loaded}
use Rattle.smlc_jobs.specs.declared.load.Loaded.TheVariants as loaded
use Rattle.smlc_jobs.specs.Held.{AreHeld, KeepsFiles, LoadsUpTo}

-- The store keeps what it has. All were loaded, or it failed at this file behind those before it, or memory was wanting.
abbrev pub IsLoaded : List (List ℕ) → Option Files → Option Files → ℕ → ℕ → Loaded → Type 0
IsLoaded names told now faults faults' (loaded.Files files) = AreHeld told names (map (λ f. f.items) files.items) × (length files.items ≡ length names) × KeepsFiles told now × (faults' ≡ faults)
IsLoaded names told now faults faults' (loaded.Failed i) = LoadsUpTo told names i × KeepsFiles told now × Fails faults faults'
IsLoaded names told now faults faults' loaded.NoMemory = KeepsFiles told now × (faults' ≡ faults)

abbrev pub is_fault : Loaded → Bool
is_fault (loaded.Failed i) = true
is_fault _ = false
