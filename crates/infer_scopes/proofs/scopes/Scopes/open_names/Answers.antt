use Rattle.std.proofs.Common.{ap, ◌∙◌, refl}
use Rattle.infer_scopes.specs.Chains.{chain}
use Rattle.infer_scopes.specs.Scopes.{Stored}
use Rattle.infer_scopes.proofs.ScopeFacts.{if_ok, unclosed_bound, all_others}
use Rattle.infer_scopes.proofs.scopes.Scopes.open_names.Goals as goal

pub returns-in-Some-clause-bound : goal.returns-in-Some-clause-bound
returns-in-Some-clause-bound c =
    let s = c.in-Some.scope in
    if_ok c.items.result _ _ (λ v e d h. unclosed_bound c.args.self.now c.args.node s d v.items (c.in-Some.ensures.is s refl) (c.in-Some.ensures.stands s refl) (e ∙ ap (λ (w : Stored). chain w.cells s.unclosed) c.self.view_is) h) c.items.ensures

pub returns-in-Some-clause-all : goal.returns-in-Some-clause-all
returns-in-Some-clause-all c =
    let s = c.in-Some.scope in
    if_ok c.items.result _ _ (λ v e p all d h. all_others c.args.self.now c.args.node s d v.items (c.in-Some.ensures.is s refl) (e ∙ ap (λ (w : Stored). chain w.cells s.unclosed) c.self.view_is) h p all) c.items.ensures
