use Rattle.std.proofs.Common.{◌≡◌, false, length}
use Rattle.convert_decide.specs.Decide.{item_in}
use Rattle.convert_bodies.specs.Bodies.{AreWritten}
use Rattle.convert_bodies.proofs.bodies.write_bodies.Given as goal

abbrev pub invariant-loop-at : goal.invariant-loop-at
invariant-loop-at l = record {
  written : AreWritten (item_in false l.fn.source.own.now) l.fn.source.terms.now l.fn.world 0 l.bodies l.world;
  many : length l.bodies ≡ l.at;
}
