use Rattle.std.proofs.Common.{◌<◌, ◌++◌, ◌∷◌, [], length, sym, ◌∙◌, subst, arith}
use Rattle.cps_ir.specs.State.{bind}
use Rattle.simulation.proofs.Lists.{get_last}
use Rattle.convert_scopes.specs.declared.scopes.Bound.{Bound}
use Rattle.convert_scopes.specs.Scopes.{Scopes, IsScope, more}
use Rattle.convert_scopes.proofs.Tree.{as_view, bound_more, grows, one_longer}
use Rattle.convert_scopes.proofs.scopes.Scopes.bind.Goals as goal

pub invariant_of-self-2 : goal.invariant_of-self-2
invariant_of-self-2 c =
    let n : Bound = record { inside = c.self.inside.present; name = c.args.name; atom = c.args.atom; before = c.get-before.result } in
    let within : c.args.name.0 < length c.self.inside.table = omega (arith, c.len.ensures) in
    as_view _ (c.self.inside.bounds ++ n ∷ []) _ _ _ _
    c.in_ok-push.ensures.ok
    c.set.ensures
    (c.len-3.ensures ∙ one_longer _ c.self.inside.bounds n c.in_ok-push.ensures.ok)
    (bound_more c.self.inside.bounds c.self.inside.table n c.self.invariant within (λ σ s. c.get-before.ensures.scope σ (subst (λ (v : Scopes). IsScope v.bounds v.present σ) c.self.view_is s)))

pub returns-clause-kept : goal.returns-clause-kept
returns-clause-kept c =
    λ v σ s.
    subst (λ bs. IsScope bs v σ) (sym c.in_ok-push.ensures.ok) (grows c.self.inside.bounds _ v σ (subst (λ (w : Scopes). IsScope w.bounds v σ) (sym c.self.view_is) s))

pub returns-clause-bound : goal.returns-clause-bound
returns-clause-bound c =
    let n : Bound = record { inside = c.self.inside.present; name = c.args.name; atom = c.args.atom; before = c.get-before.result } in
    let longer = c.len-3.ensures ∙ one_longer _ c.self.inside.bounds n c.in_ok-push.ensures.ok in
    λ σ s.
    subst (λ bs. IsScope bs c.len-3.result (bind σ c.args.name.0 c.args.atom)) (sym c.in_ok-push.ensures.ok) (subst (λ p. IsScope (c.self.inside.bounds ++ n ∷ []) p (bind σ c.args.name.0 c.args.atom)) (sym longer) (more (length c.self.inside.bounds) n σ (get_last c.self.inside.bounds n) (grows c.self.inside.bounds n c.self.inside.present σ (subst (λ (w : Scopes). IsScope w.bounds w.present σ) (sym c.self.view_is) s))))
