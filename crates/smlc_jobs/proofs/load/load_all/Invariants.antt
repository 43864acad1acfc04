use Rattle.std.proofs.Common.{◌≡◌, ℕ, List, length, take}
use Rattle.std.specs.Prelude.{map}
use Rattle.smlc_jobs.specs.Held.{AreHeld, KeepsFiles}
use Rattle.smlc_jobs.proofs.load.load_all.Given as goal

abbrev pub invariant-loop-i : goal.invariant-loop-i
invariant-loop-i g l = record {
  held : AreHeld (g.F.Store.files l.initial.store) (take l.i (map (λ name. name.now) l.names)) (map (λ f. f.items) l.files.items);
  count : length l.files.items ≡ l.i;
  keeps : KeepsFiles (g.F.Store.files l.initial.store) (g.F.Store.files l.store);
  same : g.F.Store.faults l.store ≡ g.F.Store.faults l.initial.store;
  loads : (other : List ℕ) → g.F.Store.surely_loads l.initial.store other → g.F.Store.surely_loads l.store other;
  saves : (other : List ℕ) (n : ℕ) → g.F.Store.surely_saves l.initial.store other n → g.F.Store.surely_saves l.store other n;
}
