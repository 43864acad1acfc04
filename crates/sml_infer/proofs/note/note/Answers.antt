use Rattle.sml_infer.specs.Going.{now}
use Rattle.sml_infer.proofs.Results.{if_ok}
use Rattle.sml_infer.proofs.Keeping.{keeps_noted}
use Rattle.sml_infer.proofs.NextNode.{let_goes}
use Rattle.sml_infer.proofs.note.note.Goals as goal

pub returns-clause-going : goal.returns-clause-going
returns-clause-going c =
    let w = c.args.work.now in
    if_ok _ _ c.put.result c.put.ensures (λ r noted.
    let_goes c.args.bare.now w.count c.args.declared.now (now w) w.done c.requires.numbered c.requires.going c.in-Some.body c.put.new.behind.items c.body_of.result c.in-Some.is c.body_of.ensures noted)

pub returns-clause-kept : goal.returns-clause-kept
returns-clause-kept c = if_ok _ _ c.put.result c.put.ensures (λ r noted. keeps_noted (now c.args.work.now) c.put.new.behind.items noted.count)
