use Rattle.sml_infer.specs.Begun.{AreNone}
use Rattle.sml_infer.proofs.start.nothing.Given as goal

abbrev pub invariant-places : goal.invariant-places
invariant-places g l = AreNone l.counter l.places.items
