use Rattle.std.proofs.Common.{◌≤◌, sym, ap, ◌∙◌, subst, refl}
use Rattle.convert_scopes.specs.Scopes.{Scopes, bound_of}
use Rattle.convert_scopes.proofs.Tree.{as_view, left_at, none_at}
use Rattle.convert_scopes.proofs.scopes.Scopes.leave.Goals as goal

pub invariant_of-self : goal.invariant_of-self
invariant_of-self c =
    let here = ap (λ bs. bound_of bs c.self.inside.present) (sym c.items.ensures) ∙ sym c.bound_of.ensures ∙ c.in-Some.is in
    as_view _ _ _ _ _ _ refl c.set.ensures refl (left_at c.self.inside.bounds c.self.inside.table c.self.inside.present c.in-Some.bound c.self.invariant here).0

pub returns-in_default-clause-less : goal.returns-in_default-clause-less
returns-in_default-clause-less c =
    let here = ap (λ bs. bound_of bs c.self.inside.present) (sym c.items.ensures) ∙ sym c.bound_of.ensures ∙ c.in_default.is in
    let one = subst (λ (v : Scopes). 1 ≤ v.present) (sym c.self.view_is) c.requires in
    absurd (none_at c.self.inside.bounds c.self.inside.table c.self.inside.present c.self.invariant one here)
