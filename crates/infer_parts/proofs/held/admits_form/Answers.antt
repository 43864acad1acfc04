use Rattle.std.proofs.Common.{◌≤◌, List, sym, subst}
use Rattle.std.specs.List.{AllByRecursion}
use Rattle.sml_types.specs.declared.types.Ty.{Ty}
use Rattle.sml_types.specs.declared.types.Field.{Field}
use Rattle.sml_types.specs.declared.types.TyForm.{TyForm}
use Rattle.sml_types.specs.Forms.{parts_of}
use Rattle.infer_parts.proofs.HeldFacts.{unmapped}
use Rattle.infer_parts.proofs.held.admits_form.Goals as goal

pub fields_held-requires : goal.fields_held-requires
fields_held-requires c =
    subst (λ (fs : List Field). AllByRecursion (λ f. c.args.first ≤ f.ty.0) fs) (sym c.items.ensures) (unmapped (λ k. c.args.first ≤ k) (λ f. f.ty.0) c.in-Fields.fields (subst (λ (f : TyForm). AllByRecursion (λ k. c.args.first ≤ k) (parts_of f)) c.in-Fields.is c.requires))

pub all_held-requires : goal.all_held-requires
all_held-requires c =
    subst (λ (ts : List Ty). AllByRecursion (λ t. c.args.first ≤ t.0) ts) (sym c.items-in-Parts.ensures) (unmapped (λ k. c.args.first ≤ k) (λ t. t.0) c.in-Named.args (subst (λ (f : TyForm). AllByRecursion (λ k. c.args.first ≤ k) (parts_of f)) c.in-Named.is c.requires))
