use Rattle.std.proofs.Common.{◌≡◌, ◌++◌, take}
use Rattle.sml_fixity.proofs.scope.Scope.drop_between.Given as goal

abbrev pub invariant-loop-directive : goal.invariant-loop-directive
invariant-loop-directive l = l.self ≡ take l.from l.fn.self ++ take l.directive-index l.directive-items
