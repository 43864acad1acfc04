use Rattle.sml_infer.specs.Going.{now}
use Rattle.sml_infer.proofs.Results.{if_ok, if_ok_both, if_ok_pair}
use Rattle.sml_infer.proofs.Going.{matched_goes, matched_entered}
use Rattle.sml_infer.proofs.Contexts.{lawful}
use Rattle.sml_infer.proofs.Keeping.{keeps_matched}
use Rattle.sml_infer.proofs.turn.settle.Goals as goal

pub returns-clause-going : goal.returns-clause-going
returns-clause-going c =
    if_ok_both _ _ _ c.settle_matched.result (if_ok_pair _ _ c.settle_matched.result c.settle_matched.ensures.there c.settle_matched.ensures.bodies) (if_ok_pair _ _ c.settle_matched.result c.settle_matched.ensures.kept c.settle_matched.ensures.suited) (λ r h k.
    matched_goes c.args.bare.now c.args.work.now.count c.args.declared.now (now c.args.work.now) _ c.args.work.now.done _ c.requires.going c.requires.entered c.requires.within c.requires.prefix
    (λ t h. lawful c.args.bare.now c.args.work.now.count t c.requires.numbered c.requires.prefix h) h.0 h.1 k.0 k.1)

pub returns-clause-entered : goal.returns-clause-entered
returns-clause-entered c =
    if_ok_both _ _ _ c.settle_matched.result (if_ok_pair _ _ c.settle_matched.result c.settle_matched.ensures.there c.settle_matched.ensures.bodies) (if_ok_pair _ _ c.settle_matched.result c.settle_matched.ensures.kept c.settle_matched.ensures.suited) (λ r h k.
    matched_entered c.args.bare.now c.args.work.now.count c.args.declared.now (now c.args.work.now) _ c.args.work.now.done _ c.requires.going c.requires.entered c.requires.within c.requires.prefix
    (λ t h. lawful c.args.bare.now c.args.work.now.count t c.requires.numbered c.requires.prefix h) h.0 h.1 k.0 k.1)

pub returns-clause-kept : goal.returns-clause-kept
returns-clause-kept c = if_ok _ _ c.settle_matched.result c.settle_matched.ensures.count (λ r count. keeps_matched (now c.args.work.now) _ count)
