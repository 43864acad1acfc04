use Rattle.std.proofs.Common.{◌≡◌, ℕ, ◌≤◌, length, flat_map}
use Rattle.simulation.specs.Blocks.{IsAmong}
use Rattle.sml_tree.specs.Sets.{row_at}
use Rattle.closure_ir.specs.Kept.{body_parts}
use Rattle.reg_spill.specs.Leads.{AreKept}
use Rattle.reg_spill.proofs.Placing.{AreDone}
use Rattle.reg_spill.proofs.program.place_all.Given as goal

abbrev pub invariant-loop-i : goal.invariant-loop-i
invariant-loop-i l = record {
  len : length l.entries.items ≡ length l.bodies;
  count : length l.placed.items ≡ l.i;
  long : l.program.variables ≤ length l.table.items;
  sound : AreKept l.program l.placed.items;
  done : AreDone l.bodies l.lives l.entries.items l.placed.items;
  kept : (c : ℕ) → (IsAmong c (flat_map body_parts l.bodies) → ⊥) → row_at l.entries.items c ≡ row_at l.fn.entries.items c;
}
