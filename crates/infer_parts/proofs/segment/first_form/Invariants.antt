use Rattle.std.proofs.Common.{◌≡◌, ◌+◌, ◌≤◌, ℕ, Some}
use Rattle.std.specs.Prelude.{slice_get}
use Rattle.std.specs.List.{AllByRecursion}
use Rattle.sml_types.specs.declared.types.TyForm.{TyForm}
use Rattle.sml_types.specs.Forms.{parts_of}
use Rattle.infer_parts.proofs.segment.first_form.Given as goal

abbrev pub invariant-forms : goal.invariant-forms
invariant-forms l =
    record {
      order : l.first ≤ l.at;
      low : l.first ≤ l.fn.low;
      end : l.at ≤ l.last + 1;
      closed : (i : ℕ) (form : TyForm) → l.at ≤ i → i ≤ l.last → slice_get l.forms i ≡ Some form → AllByRecursion (λ c. l.first ≤ c) (parts_of form);
    }

abbrev pub decreases-forms : goal.decreases-forms
decreases-forms l = l.at
