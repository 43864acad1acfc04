use Rattle.std.proofs.Common.{◌≡◌, ◌<◌, ℕ, Some}
use Rattle.std.specs.Prelude.{slice_get}
use Rattle.sml_tree.specs.declared.bare.TypeExp.{TypeExp}
use Rattle.sml_tree.specs.IsBare.{TypeStands}
use Rattle.infer_tables.specs.Checks.{HasPlaces}
use Rattle.infer_tables.proofs.checks.check_types.Given as goal

abbrev pub invariant-exps : goal.invariant-exps
invariant-exps l = (i : ℕ) (e : TypeExp) → i < l.at → slice_get l.exps i ≡ Some e → TypeStands l.fn.bare i e × HasPlaces e
