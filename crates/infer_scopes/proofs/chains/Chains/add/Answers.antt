use Rattle.std.proofs.Common.{◌++◌, ◌∷◌, [], List, Some, length, sym, ap, ◌∙◌, subst}
use Rattle.infer_scopes.specs.declared.chains.Cell.{Cell}
use Rattle.infer_scopes.specs.Chains.{chain, AreCells, IsMore}
use Rattle.infer_scopes.proofs.ChainFacts.{cells_more, more_one, chain_new}
use Rattle.infer_scopes.proofs.chains.Chains.add.Goals as goal

pub invariant_of-self-2 : goal.invariant_of-self-2
invariant_of-self-2 c =
    let cell : Cell = record { item = c.args.item; next = c.args.next; jump = c.jump_onto-jump.result; depth = c.saturating_add-depth.result } in
    let all : AreCells c.args.self.now = subst AreCells c.self.view_is c.self.invariant in
    subst AreCells (sym (c.in_ok-push.ensures.ok ∙ ap (λ (F : List Cell). F ++ cell ∷ []) c.self.view_is)) (cells_more c.args.self.now cell all c.requires.next (c.jump_onto-jump.ensures.below c.requires.next) c.jump_onto-jump.ensures.among)

pub returns-clause-more : goal.returns-clause-more
returns-clause-more c =
    let cell : Cell = record { item = c.args.item; next = c.args.next; jump = c.jump_onto-jump.result; depth = c.saturating_add-depth.result } in
    subst (λ (F : List Cell). IsMore c.args.self.now F) (sym (c.in_ok-push.ensures.ok ∙ ap (λ (F : List Cell). F ++ cell ∷ []) c.self.view_is)) (more_one c.args.self.now cell)

pub returns-clause-added : goal.returns-clause-added
returns-clause-added c =
    let cell : Cell = record { item = c.args.item; next = c.args.next; jump = c.jump_onto-jump.result; depth = c.saturating_add-depth.result } in
    ap (λ k. chain c.push.new.self (Some k)) (c.len-at.ensures ∙ ap length c.self.view_is)
    ∙ ap (λ (F : List Cell). chain F (Some (length c.args.self.now))) (c.in_ok-push.ensures.ok ∙ ap (λ (F : List Cell). F ++ cell ∷ []) c.self.view_is)
    ∙ chain_new c.args.self.now cell
