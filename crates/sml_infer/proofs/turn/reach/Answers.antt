use Rattle.std.proofs.Common.{◌≡◌, ℕ, List, Option, Some, sym, subst, ◌∙◌}
use Rattle.std.specs.Prelude.{slice_get}
use Rattle.sml_infer.specs.Going.{now, joined_number}
use Rattle.sml_infer.proofs.Results.{if_ok, if_ok_both}
use Rattle.sml_infer.proofs.Going.{close_goes, left_closed}
use Rattle.sml_infer.proofs.Contexts.{lawful}
use Rattle.sml_infer.proofs.Keeping.{keeps_closed}
use Rattle.sml_infer.proofs.turn.reach.Goals as goal

pub returns-clause-going : goal.returns-clause-going
returns-clause-going c =
    let closed = c.in_ok-left.ensures in
    let p = c.args.bare.now in
    let a = now c.args.work.now in
    if_ok_both _ _ _ c.enter_body.result c.enter_body.ensures.entered c.enter_body.ensures.closed (λ r entered open_after.
    close_goes p c.args.work.now.count c.args.declared.now a _ _ _ c.args.work.now.done c.args.node c.in-Some.at
    c.requires.going c.requires.within (subst (λ (xs : List (Option ℕ)). joined_number (slice_get xs c.args.node) ≡ Some c.in-Some.at) c.deref.ensures.value (sym c.let_before.ensures ∙ c.in-Some.is)) c.requires.numbered c.requires.prefix
    (λ t h. lawful p c.args.work.now.count t c.requires.numbered c.requires.prefix h)
    c.forms.ensures.kept closed.state closed.there closed.bodies closed.kept closed.suited entered
    (left_closed p.nodes _ _ _ c.in-Some.at _ _ c.deref-2.ensures.value c.requires.numbered closed.left (open_after _)))

pub returns-clause-kept : goal.returns-clause-kept
returns-clause-kept c =
    let closed = c.in_ok-left.ensures in
    if_ok _ _ c.enter_body.result c.enter_body.ensures.entered (λ r entered. keeps_closed c.args.bare.now c.args.declared.now (now c.args.work.now) _ _ _ c.in-Some.at c.requires.going.sound closed.state closed.count entered)
