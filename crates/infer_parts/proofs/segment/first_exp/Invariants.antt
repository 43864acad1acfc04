use Rattle.std.proofs.Common.{◌≡◌, ◌+◌, ◌≤◌, ℕ, Some}
use Rattle.std.specs.Prelude.{slice_get}
use Rattle.std.specs.List.{AllByRecursion}
use Rattle.sml_tree.specs.declared.bare.TypeExp.{TypeExp}
use Rattle.infer_parts.specs.Segments.{exp_parts}
use Rattle.infer_parts.proofs.segment.first_exp.Given as goal

abbrev pub invariant-exps : goal.invariant-exps
invariant-exps l =
    record {
      order : l.first ≤ l.at;
      low : l.first ≤ l.fn.last;
      end : l.at ≤ l.last + 1;
      closed : (i : ℕ) (e : TypeExp) → l.at ≤ i → i ≤ l.last → slice_get l.exps i ≡ Some e → AllByRecursion (λ c. l.first ≤ c) (exp_parts e);
    }

abbrev pub decreases-exps : goal.decreases-exps
decreases-exps l = l.at
