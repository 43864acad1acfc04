use Rattle.std.proofs.Common.{rules, ◌<◌, length, sym, ◌∙◌}
use Rattle.heap_probes.proofs.Told.{told_more, told_done}
use Rattle.heap_probes.proofs.telling.tell_at.Goals as goal

pub returns-in-More-clause-told : goal.returns-in-More-clause-told
returns-in-More-clause-told g c =
    let here : c.args.at < length c.args.probes.now.items = search rules in
    told_more _ _ c.args.probes.now.items c.args.at _ _ here c.index_mut.ensures.value c.tell.ensures.noted (sym c.tell.ensures.answer ∙ c.in-More.is)

pub returns-in-Done-clause-told : goal.returns-in-Done-clause-told
returns-in-Done-clause-told g c =
    let here : c.args.at < length c.args.probes.now.items = search rules in
    rw (c.remove.ensures.by_index.2) (told_done _ _ c.args.probes.now.items c.args.at _ c.tell.new.probe here c.index_mut.ensures.value (sym c.tell.ensures.answer ∙ c.in-Done.is))
