use Rattle.std.proofs.Common.{Some, List, sym, ap, ◌∙◌, subst, slice_index_or}
use Rattle.std.proofs.lemmas.Option.{slice_get-get_or}
use Rattle.sml_types.specs.declared.types.TyForm.{TyForm}
use Rattle.sml_types.specs.Forms.{IsNumbered}
use Rattle.sml_types.proofs.FormFacts.{tree_form}
use Rattle.sml_types.proofs.types.Types.form.Goals as goal

pub returns-clause-means : goal.returns-clause-means
returns-clause-means c =
    let same = c.items.ensures ∙ c.self.view_is in
    tree_form c.args.self.now c.args.ty.0 c.index-items-ty.result (subst (λ (F : List TyForm). IsNumbered F) c.self.view_is c.self.invariant.numbered) (slice_get-get_or c.args.self.now c.args.ty.0 c.index-items-ty.result c.requires ∙ ap Some (sym (c.index-items-ty.is ∙ ap (λ F. slice_index_or F c.args.ty.0 c.index-items-ty.result) same)))
