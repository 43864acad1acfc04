use Rattle.std.proofs.Common.{◌≡◌, ℕ, Some}
use Rattle.std.specs.Prelude.{slice_get}
use Rattle.infer_scopes.specs.declared.scope.Scope.{Scope}
use Rattle.infer_scopes.proofs.scopes.Scopes.empty.Given as goal

abbrev pub invariant-nodes : goal.invariant-nodes
invariant-nodes l = (i : ℕ) (scope : Scope) → slice_get l.scopes i ≡ Some (Some scope) → ⊥
