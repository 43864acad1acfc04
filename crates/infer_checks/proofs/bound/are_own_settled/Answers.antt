use Rattle.std.proofs.Common.{List, sym, subst}
use Rattle.std.specs.List.{AllByRecursion}
use Rattle.sml_tree.specs.declared.bare.RecBinding.{RecBinding}
use Rattle.sml_types.specs.Typing.{group_names}
use Rattle.infer_state.specs.Fits.{settled_at}
use Rattle.infer_checks.specs.Bound.{HasScheme, HaveSchemes}
use Rattle.infer_checks.proofs.bound.are_own_settled.Goals as goal

pub returns-in-ValRec : goal.returns-in-ValRec
returns-in-ValRec c all forms =
    let known = settled_at forms c.args.settled.now in
    subst
    (HaveSchemes known)
    (sym c.in-ValRec.is)
    (subst (λ (bindings : List RecBinding). AllByRecursion (λ x. HasScheme (known x)) (group_names bindings)) c.items.ensures (c.are_group_settled.ensures all forms))
