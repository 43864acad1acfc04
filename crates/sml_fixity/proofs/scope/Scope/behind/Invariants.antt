use Rattle.std.proofs.Common.{◌≡◌, ◌-◌, take, drop}
use Rattle.sml_fixity.proofs.scope.Scope.behind.Given as goal

abbrev pub invariant-loop-i : goal.invariant-loop-i
invariant-loop-i l = l.kept.items ≡ take (l.i - l.from) (drop l.from l.self-inside.directives.items)
