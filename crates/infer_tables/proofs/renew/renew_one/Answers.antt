use Rattle.std.proofs.Common.{◌<◌, ◌++◌, ◌∷◌, [], length, sym, ap, ◌∙◌, subst, refl, arith}
use Rattle.sml_types.specs.declared.types.TyVar.{TyVar}
use Rattle.sml_types.specs.declared.types.TyForm.TheVariants.{Var}
use Rattle.sml_types.specs.Tree.{Variable}
use Rattle.sml_types.specs.Forms.{AreForms, IsNamedAs}
use Rattle.infer_tables.proofs.RenewFacts.{named_again, renewed}
use Rattle.infer_tables.proofs.renew.renew_one.Goals as goal

pub push-requires-clause-named : goal.push-requires-clause-named
push-requires-clause-named c =
    let forms : AreForms c.args.types.now = subst AreForms c.types.view_is c.types.invariant in
    let l = c.if-at-len.false in
    let below : c.args.number < length c.args.known.stands = omega (arith, l, c.len.ensures) in
    subst (λ (v : TyVar). IsNamedAs c.args.types.now (Var v)) (sym c.explicit.ensures) (named_again c.args.bare.now c.args.types.now c.args.known c.requires.scope forms.numbered c.args.number below forms.named)

pub returns : goal.returns
returns c =
    let forms : AreForms c.args.types.now = subst AreForms c.types.view_is c.types.invariant in
    let l = c.if-at-len.false in
    let below : c.args.number < length c.args.known.stands = omega (arith, l, c.len.ensures) in
    let pushed = c.in_ok-stand.ensures.ok in
    renewed c.args.bare.now c.args.types.now c.args.known c.requires.scope forms.numbered c.args.number below c.push.new.self (record { tables = c.args.known.tables; abbreviations = c.args.known.abbreviations; stands = c.set.new.self }) c.in_ok-stand.stand
    (pushed.1 ∙ ap (λ (v : TyVar). c.args.types.now ++ Var v ∷ []) c.explicit.ensures)
    pushed.0
    (c.in_ok-stand.ensures.means ∙ ap Variable c.explicit.ensures)
    refl
    refl
    c.set.ensures
