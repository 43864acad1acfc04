use Rattle.std.proofs.Common.{◌++◌, ◌∷◌, [], List, ℕ, false, take, sym, subst}
use Rattle.std.specs.Prelude.{get_or}
use Rattle.std.proofs.lemmas.List.{take_more}
use Rattle.sml_types.specs.declared.types.TyVar.{TyVar}
use Rattle.infer_checks.specs.Checked.{ending}
use Rattle.infer_checks.specs.Ending.{Lists, IsOpenAmong}
use Rattle.infer_checks.proofs.OpenFacts.{lists_step}
use Rattle.infer_checks.proofs.open.open_among.Goals as goal

pub inner-preserved : goal.inner-preserved
inner-preserved c =
    let f = ending c.args.unknowns.now c.args.renames.now in
    let vars : List TyVar = c.args.vars.now in
    let us : List TyVar = c.args.inner.now in
    let none : TyVar = record { num = 0; eq = false } in
    let i = c.inner.var-index in
    let more = c.in_ok-add_open.ensures in
    subst
    (λ (vs : List TyVar). Lists (IsOpenAmong f vars vs) c.add_open.new.numbers.items)
    (sym (take_more us i none c.inner-test.true))
    (subst (λ (xs : List ℕ). Lists (IsOpenAmong f vars (take i us ++ get_or us i none ∷ [])) xs) (sym more.1) (lists_step f vars (take i us) (get_or us i none) c.inner.numbers.items more.0 c.inner.invariant more.2))
