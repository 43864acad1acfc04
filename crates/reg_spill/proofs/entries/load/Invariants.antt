use Rattle.std.proofs.Common.{◌≡◌, ℕ, ◌≤◌, length, map, take}
use Rattle.simulation.specs.Blocks.{IsAmong}
use Rattle.place_laws.specs.Place.{Places}
use Rattle.place_bodies.specs.Steps.{at_of}
use Rattle.reg_spill.proofs.entries.load.Given as goal

abbrev pub invariant-loop-i : goal.invariant-loop-i
invariant-loop-i l = record {
  long : length l.fn.table.items ≤ length l.table.items;
  places : (there : Places) → l.places ≡ map there l.variables → (x : ℕ) → IsAmong x (take l.i l.variables) → at_of l.table.items x ≡ there x;
}
