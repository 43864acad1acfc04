use Rattle.std.proofs.Common.{List, take}
use Rattle.std.specs.List.{AllByRecursion}
use Rattle.sml_types.specs.declared.types.TyForm.{TyForm}
use Rattle.infer_state.specs.Fits.{settled_at}
use Rattle.infer_checks.specs.Bound.{HasScheme}
use Rattle.infer_checks.proofs.bound.are_group_settled.Given as goal

abbrev pub invariant-bindings : goal.invariant-bindings
invariant-bindings l = (forms : List TyForm) → AllByRecursion (λ b. HasScheme (settled_at forms l.settled b.name.0)) (take l.binding-index l.bindings)
