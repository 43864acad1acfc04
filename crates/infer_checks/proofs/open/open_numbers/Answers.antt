use Rattle.std.proofs.Common.{List, subst}
use Rattle.sml_types.specs.declared.types.TyVar.{TyVar}
use Rattle.sml_types.specs.Forms.{tree}
use Rattle.infer_checks.specs.Checked.{ending}
use Rattle.infer_checks.specs.Ending.{Lists, IsOpenAmong}
use Rattle.infer_checks.proofs.OpenFacts.{lists_scheme}
use Rattle.infer_checks.proofs.open.open_numbers.Goals as goal

pub returns : goal.returns
returns c =
    let f = ending c.args.unknowns.now c.args.renames.now in
    let s = c.args.settled.now.scheme in
    lists_scheme f s.vars c.in_ok-inner.inner.items (tree c.args.unknowns.now.types s.body.0) c.in_ok-numbers.numbers.items c.in_ok-inner.ensures
    (subst (λ (us : List TyVar). Lists (IsOpenAmong f s.vars us) c.in_ok-numbers.numbers.items) c.deref.ensures.value (subst (λ (vs : List TyVar). Lists (IsOpenAmong f vs c.deref.result.now) c.in_ok-numbers.numbers.items) c.items-vars.ensures c.in_ok-numbers.ensures))
