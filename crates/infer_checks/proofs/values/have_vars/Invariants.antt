use Rattle.std.proofs.Common.{List, take}
use Rattle.std.specs.List.{AllByRecursion}
use Rattle.sml_types.specs.declared.types.TyForm.{TyForm}
use Rattle.infer_state.specs.Fits.{settled_at}
use Rattle.infer_checks.specs.Ending.{HasVars}
use Rattle.infer_checks.proofs.values.have_vars.Given as goal

abbrev pub invariant-names : goal.invariant-names
invariant-names l = (forms : List TyForm) → AllByRecursion (λ x. HasVars l.vars (settled_at forms l.settled x)) (take l.name-index l.names)
