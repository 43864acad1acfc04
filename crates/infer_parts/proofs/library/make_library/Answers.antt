use Rattle.std.proofs.Common.{false, refl, sym, subst}
use Rattle.sml_types.specs.Library.{BeginsWithLibrary}
use Rattle.infer_parts.specs.LibraryRows.{library_forms}
use Rattle.infer_parts.proofs.LibraryThere.{library_there}
use Rattle.infer_parts.proofs.library.make_library.Goals as goal

pub returns-clause-is : goal.returns-clause-is
returns-clause-is c =
    subst
    (λ f. BeginsWithLibrary f c.in_ok-rows.field-0)
    (sym c.in_ok-forms.ensures)
    (subst (λ r. BeginsWithLibrary (library_forms (record { num = c.args.num; eq = false })) r) (sym c.in_ok-rows.ensures) (library_there (record { num = c.args.num; eq = false }) refl))
