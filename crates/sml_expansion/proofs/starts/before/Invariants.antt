use Rattle.std.proofs.Common.{◌≡◌, ◌-◌}
use Rattle.sml_expansion.specs.Starts.{before}
use Rattle.sml_expansion.proofs.starts.before.Given as goal

abbrev pub invariant-loop : goal.invariant-loop
invariant-loop l = before l.starts (l.fn.trees - l.counter) l.start ≡ before l.starts l.fn.trees l.fn.nodes
