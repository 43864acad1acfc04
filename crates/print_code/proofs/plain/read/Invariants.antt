use Rattle.std.proofs.Common.{ℕ, List, ◌-◌, ◌++◌, length}
use Rattle.smlc_base.specs.declared.place.Place.{Place}
use Rattle.print_code.specs.Code.{IsStraight}
use Rattle.print_code.specs.Plain.{Says, StopsAt}
use Rattle.print_code.specs.Reading.{IsNest}
use Rattle.print_code.proofs.plain.read.Given as goal

abbrev pub invariant-loop-printed : goal.invariant-loop-printed
invariant-loop-printed l = record {
  mean : (more : List ℕ) → Says l.bare l.at more → Says l.bare 0 (l.printed.text.items ++ more);
  stop : (place : Place) → StopsAt l.bare l.at place → StopsAt l.bare 0 place;
  straight : IsStraight l.printed.lengths.items l.printed.text.items;
  nest : IsNest l.bare l.at;
}

abbrev pub decreases-loop-printed : goal.decreases-loop-printed
decreases-loop-printed l = length l.bare.nodes - l.at
