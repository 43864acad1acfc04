use Rattle.std.proofs.Common.{◌≡◌, ℕ, length, map, take}
use Rattle.std.specs.List.{AllByRecursion}
use Rattle.simulation.specs.Blocks.{IsAmong}
use Rattle.sml_tree.specs.Sets.{row_at}
use Rattle.place_bodies.specs.Steps.{at_of}
use Rattle.place_bodies.specs.Whole.{HasPlaces}
use Rattle.reg_spill.proofs.entries.begin_rules.Given as goal

abbrev pub invariant-loop-rule : goal.invariant-loop-rule
invariant-loop-rule l = record {
  len : length l.entries.items ≡ length l.fn.entries.items;
  parts : AllByRecursion (λ n. HasPlaces l.lives l.entries.items n (at_of l.table)) (map (λ r. r.body) (take l.rule-index l.rules));
  others : (c : ℕ) → (IsAmong c (map (λ r. r.body) l.rules) → ⊥) → row_at l.entries.items c ≡ row_at l.fn.entries.items c;
}
