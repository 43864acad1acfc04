use Rattle.std.proofs.Common.{List, sym, ap, ◌∙◌, subst}
use Rattle.sml_types.specs.declared.types.TyVar.{TyVar}
use Rattle.infer_closing.specs.Found.{AreVars, without}
use Rattle.infer_closing.proofs.GrowFacts.{without_are}
use Rattle.infer_closing.proofs.settle.close_group.Goals as goal

pub settle_names-requires-clause-vars : goal.settle_names-requires-clause-vars
settle_names-requires-clause-vars c =
    subst
    (λ (vs : List TyVar). AreVars c.args.unknowns.now.types vs)
    (sym (c.items-3.ensures ∙ c.in_ok-vars.ensures ∙ ap (without c.args.opened.now) c.items.ensures))
    (without_are c.args.unknowns.now.types c.args.opened.now c.args.group.now.vars c.requires.vars)
