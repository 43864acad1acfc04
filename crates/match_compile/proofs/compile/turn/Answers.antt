use Rattle.std.proofs.Common.{◌++◌, reverse, sym, ap, ◌∙◌, append-nil}
use Rattle.std.proofs.lemmas.Option.{slice_get_past}
use Rattle.match_compile.specs.Walk.{tests_at, names_at, tasks_at}
use Rattle.match_compile.proofs.compile.turn.Goals as goal

pub returns-in-None-clause-found : goal.returns-in-None-clause-found
returns-in-None-clause-found c =
    sym (append-nil c.args.found.now.items) ∙ ap (λ o. c.args.found.now.items ++ tests_at c.args.tables.now.names o c.args.task.now.path) (sym (slice_get_past c.args.nodes.now c.args.task.now.node c.in-None.ensures.lookup.3))

pub returns-in-None-clause-bound : goal.returns-in-None-clause-bound
returns-in-None-clause-bound c =
    sym (append-nil c.args.bound.now.items) ∙ ap (λ o. c.args.bound.now.items ++ names_at o c.args.task.now.path) (sym (slice_get_past c.args.nodes.now c.args.task.now.node c.in-None.ensures.lookup.3))

pub returns-in-None-clause-work : goal.returns-in-None-clause-work
returns-in-None-clause-work c =
    sym (append-nil c.args.work.now.items) ∙ ap (λ o. c.args.work.now.items ++ reverse (tasks_at o c.args.task.now.path)) (sym (slice_get_past c.args.nodes.now c.args.task.now.node c.in-None.ensures.lookup.3))
