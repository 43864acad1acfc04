use Rattle.std.proofs.Common.{sym, ap, ◌∙◌, subst, refl}
use Rattle.convert_scopes.specs.Scopes.{Scopes, IsNext, bound_of}
use Rattle.convert_scopes.proofs.Tree.{as_view, entered_next}
use Rattle.convert_scopes.proofs.scopes.Scopes.enter.Goals as goal

pub invariant_of-self : goal.invariant_of-self
invariant_of-self c =
    let here = ap (λ bs. bound_of bs c.args.next) (sym c.items.ensures) ∙ sym c.bound_of.ensures ∙ c.in-Some.is in
    let next = subst (λ (v : Scopes). IsNext v.bounds v.present c.args.next) (sym c.self.view_is) c.requires in
    as_view _ _ _ _ _ _ refl c.set.ensures refl (entered_next c.self.inside.bounds c.self.inside.table c.self.inside.present c.args.next c.in-Some.bound c.self.invariant next here).0
