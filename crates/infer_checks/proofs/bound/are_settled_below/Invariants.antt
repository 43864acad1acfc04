use Rattle.std.proofs.Common.{List, ℕ, ◌<◌}
use Rattle.std.specs.Prelude.{slice_get}
use Rattle.sml_types.specs.declared.types.TyForm.{TyForm}
use Rattle.infer_state.specs.Fits.{settled_at}
use Rattle.infer_checks.specs.Bound.{HaveSchemesAt}
use Rattle.infer_checks.proofs.bound.are_settled_below.Given as goal

abbrev pub invariant-nodes : goal.invariant-nodes
invariant-nodes l = (forms : List TyForm) (i : ℕ) → i < l.at → HaveSchemesAt (settled_at forms l.settled) (slice_get l.bare.nodes i)
