use Rattle.std.proofs.Common.{◌≡◌, sym, ap, ◌∙◌, subst, arith, List}
use Rattle.std.specs.Prelude.{slice_get}
use Rattle.sml_types.specs.declared.types.TyForm.{TyForm}
use Rattle.sml_types.specs.Tree.{inst}
use Rattle.sml_types.specs.Forms.{tree, parts_of}
use Rattle.infer_parts.specs.declared.given.Given.{Given}
use Rattle.infer_parts.specs.Copies.{given_types, AreGiven}
use Rattle.infer_parts.specs.Written.{paired}
use Rattle.infer_parts.proofs.Forms.{paired_there, none_before}
use Rattle.infer_parts.proofs.written.unfolded.Goals as goal

pub copy-requires-clause-given : goal.copy-requires-clause-given
copy-requires-clause-given c =
    subst (λ (gs : List Given). AreGiven c.args.types.now gs) (sym (c.deref.ensures.value ∙ c.in_ok-given.ensures)) (paired_there c.args.types.now c.args.vars.now c.args.args.now c.requires.there)

pub copy-requires-clause-closed : goal.copy-requires-clause-closed
copy-requires-clause-closed c i form lo hi e =
    none_before c.in_ok-first.first (λ k. inst (given_types c.args.types.now c.deref.result.now) (tree c.args.types.now k) ≡ tree c.args.types.now k) (parts_of form) (c.in_ok-first.ensures.closed i form lo (omega arith) (ap (λ (fs : List TyForm). slice_get fs i) c.forms.ensures.forms ∙ e))
