use Rattle.std.proofs.Common.{◌≡◌, ◌<◌, ℕ, Some}
use Rattle.std.specs.Prelude.{slice_get}
use Rattle.sml_tree.specs.declared.bare.TypeExp.{TypeExp}
use Rattle.infer_tables.specs.Checks.{CitesBelow}
use Rattle.infer_tables.proofs.checks.all_cite_below.Given as goal

abbrev pub invariant-exps : goal.invariant-exps
invariant-exps l = (i : ℕ) (e : TypeExp) → i < l.at → slice_get l.exps i ≡ Some e → CitesBelow l.names l.bindings e
