use Rattle.std.proofs.Common.{Err}
use Rattle.sml_infer.specs.Going.{now}
use Rattle.sml_infer.proofs.Keeping.{keeps_then}
use Rattle.sml_infer.proofs.NextNode.{refused_at}
use Rattle.sml_infer.proofs.turn.turn.Goals as goal

pub returns-in_ok-finish-in-Ok-clause-kept : goal.returns-in_ok-finish-in-Ok-clause-kept
returns-in_ok-finish-in-Ok-clause-kept c =
    let first = keeps_then (now c.args.work.now) (now c.prepare.new.work) (now c.ask_next.new.work) c.in_ok-prepare.ensures.kept c.in-Ok.ensures.kept in
    keeps_then (now c.args.work.now) (now c.ask_next.new.work) (now c.finish.new.work) first c.in_ok-finish-in-Ok.ensures.kept

pub returns-in-Err-clause-refused : goal.returns-in-Err-clause-refused
returns-in-Err-clause-refused c = refused_at {A = Unit {0}} c.args.bare.now (Err c.in-Err.failure) c.prepare.new.work.count c.args.work.now.count c.prepare.ensures.count c.in-Err.ensures.refused
