use Rattle.std.proofs.Common.{◌≡◌, ℕ, ◌<◌, ◌≤◌, length, true, Some}
use Rattle.std.specs.Prelude.{slice_get}
use Rattle.sml_tree.specs.declared.bare.TypeExp.{TypeExp}
use Rattle.infer_parts.specs.Written.{is_cited}
use Rattle.infer_parts.specs.Copies.{AreOldVars}
use Rattle.infer_parts.proofs.WrittenSteps.{AreWritten}
use Rattle.infer_parts.proofs.written.written.Given as goal

abbrev pub invariant-exps : goal.invariant-exps
invariant-exps l =
    record {
      made : AreWritten l.exps l.fn.bare.tyvars l.names l.abbreviations l.stands l.fn.types l.first l.at l.types l.made.items;
      vars : AreOldVars l.fn.types l.types;
      cited : (i : ℕ) (e : TypeExp) → l.first ≤ i → i < l.at → slice_get l.exps i ≡ Some e → is_cited (length l.abbreviations) e ≡ true;
    }
