use Rattle.std.proofs.Common.{rules, ◌≡◌, List, Option, Some, None, sym, subst}
use Rattle.std.specs.Prelude.{slice_get}
use Rattle.infer_scopes.specs.declared.scope.Scope.{Scope}
use Rattle.infer_scopes.specs.Scopes.{Stored, IsScope, AreScopes}
use Rattle.infer_scopes.proofs.ScopeFacts.{scopes_set, put_gives}
use Rattle.infer_scopes.proofs.scopes.Scopes.put.Goals as goal

pub invariant_of-self : goal.invariant_of-self
invariant_of-self c =
    subst
    (λ (ss : List (Option Scope)). AreScopes (record { cells = c.self.inside.chains; scopes = ss }))
    (sym c.set.ensures)
    (scopes_set (record { cells = c.self.inside.chains; scopes = c.self.inside.scopes }) c.args.node c.args.scope (subst (λ (s : Stored). IsScope s.cells c.args.scope) (sym c.self.view_is) c.requires) c.self.invariant)

pub returns : goal.returns
returns c =
    let free : slice_get c.args.self.now.scopes c.args.node ≡ Some None = search rules in
    put_gives c.args.self.now c.self.inside.chains c.self.inside.scopes c.set.new.self c.args.node c.args.scope c.self.view_is free c.set.ensures
