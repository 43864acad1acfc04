use Rattle.std.proofs.Common.{◌<◌, length}
use Rattle.sml_unify.specs.Solved.{IsSameType}
use Rattle.sml_unify.proofs.Heads.{IsLow}
use Rattle.sml_unify.proofs.head.head.Given as goal

abbrev pub invariant-loop : goal.invariant-loop
invariant-loop l = record {
  there : l.now.0 < length l.forms;
  same : IsSameType l.forms l.bound l.fn.ty.0 l.now.0;
  low : IsLow l.forms l.bound l.now.0 l.counter;
}
