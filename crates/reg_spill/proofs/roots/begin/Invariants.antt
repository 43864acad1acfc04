use Rattle.std.proofs.Common.{◌≡◌, length, take}
use Rattle.std.specs.List.{AllByRecursion}
use Rattle.place_laws.specs.Place.{nowhere}
use Rattle.place_bodies.specs.Whole.{HasPlaces}
use Rattle.reg_spill.proofs.Params.{Begins}
use Rattle.reg_spill.proofs.roots.begin.Given as goal

abbrev pub invariant-loop-function : goal.invariant-loop-function
invariant-loop-function l = record {
  len : length l.entries.items ≡ length l.lives;
  main : HasPlaces l.lives l.entries.items 0 nowhere;
  begun : AllByRecursion (Begins l.lives l.entries.items) (take l.function-index l.functions);
}
