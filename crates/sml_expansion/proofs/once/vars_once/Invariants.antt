use Rattle.std.proofs.Common.{◌≡◌, map, take}
use Rattle.sml_expansion.specs.declared.scope.Bound.{Bound}
use Rattle.sml_expansion.proofs.once.vars_once.Given as goal

abbrev pub invariant-loop-bound : goal.invariant-loop-bound
invariant-loop-bound l = l.idents.items ≡ map (λ (v : Bound). v.ident) (take l.bound-index l.vars)
