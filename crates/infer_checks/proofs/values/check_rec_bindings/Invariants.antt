use Rattle.std.proofs.Common.{◌≡◌, Some, [], ◌∷◌, take}
use Rattle.std.specs.List.{AllByRecursion}
use Rattle.sml_types.specs.Poly.{Context}
use Rattle.infer_state.specs.Fits.{settled_at}
use Rattle.infer_scopes.specs.Scopes.{contexts_of}
use Rattle.infer_checks.specs.Checked.{ending}
use Rattle.infer_checks.specs.Node.{IsGeneralised}
use Rattle.infer_checks.proofs.values.check_rec_bindings.Given as goal

abbrev pub invariant-bindings : goal.invariant-bindings
invariant-bindings l = (c : Context) → contexts_of l.scopes l.node ≡ Some c → AllByRecursion (λ b. IsGeneralised l.bare (settled_at l.unknowns.types l.settled) (ending l.unknowns l.renames) l.general c b.right (b.name.0 ∷ [])) (take l.binding-index l.bindings)
