use Rattle.sml_infer.specs.Going.{now}
use Rattle.sml_infer.proofs.Results.{if_ok, if_ok_both}
use Rattle.sml_infer.proofs.Going.{enter_goes, enter_entered}
use Rattle.sml_infer.proofs.Contexts.{lawful}
use Rattle.sml_infer.proofs.Keeping.{keeps_entered}
use Rattle.sml_infer.proofs.turn.enter.Goals as goal

pub returns-clause-going : goal.returns-clause-going
returns-clause-going c =
    if_ok_both _ _ _ c.enter.result c.enter.ensures.entered c.enter.ensures.closed (λ r entered closed.
    enter_goes c.args.bare.now c.args.work.now.count c.args.declared.now (now c.args.work.now) _ c.args.work.now.done _ c.requires.going c.requires.within
    (λ t h. lawful c.args.bare.now c.args.work.now.count t c.requires.numbered c.requires.prefix h) entered closed)

pub returns-clause-entered : goal.returns-clause-entered
returns-clause-entered c =
    if_ok_both _ _ _ c.enter.result c.enter.ensures.entered c.enter.ensures.closed (λ r entered closed.
    enter_entered c.args.bare.now c.args.work.now.count c.args.declared.now (now c.args.work.now) _ c.args.work.now.done _ c.requires.going c.requires.within
    (λ t h. lawful c.args.bare.now c.args.work.now.count t c.requires.numbered c.requires.prefix h) entered closed)

pub returns-clause-kept : goal.returns-clause-kept
returns-clause-kept c = if_ok _ _ c.enter.result c.enter.ensures.entered (λ r entered. keeps_entered c.args.bare.now.nodes (now c.args.work.now) _ c.args.work.now.done entered)
