use Rattle.std.proofs.Common.{List, take, []}
use Rattle.std.specs.List.{AllByRecursion}
use Rattle.sml_types.specs.declared.types.TyForm.{TyForm}
use Rattle.infer_state.specs.Fits.{settled_at}
use Rattle.infer_checks.specs.Ending.{HasVars}
use Rattle.infer_checks.proofs.matched.are_plain.Given as goal

abbrev pub invariant-names : goal.invariant-names
invariant-names l = (forms : List TyForm) → AllByRecursion (λ x. HasVars [] (settled_at forms l.settled x)) (take l.name-index l.names)
