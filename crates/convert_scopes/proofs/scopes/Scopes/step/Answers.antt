use Rattle.std.proofs.Common.{◌++◌, ◌∷◌, [], sym, subst}
use Rattle.convert_scopes.specs.Scopes.{Chain}
use Rattle.convert_scopes.proofs.Chains.{chain_down}
use Rattle.convert_scopes.proofs.scopes.Scopes.step.Goals as goal

pub returns-clause-chain : goal.returns-clause-chain
returns-clause-chain c =
    λ scope h.
    let bounds = c.args.self.now.bounds in
    let before = c.args.entered.now.items in
    let next = c.inside-inside.ensures.next in
    subst
    (λ es. Chain bounds scope es c.inside-inside.result)
    (sym c.in_ok-push.ensures.items)
    (subst (λ p. Chain bounds scope (before ++ c.args.to ∷ []) p) next.on (chain_down bounds scope before c.args.to next.bound next.is h))
