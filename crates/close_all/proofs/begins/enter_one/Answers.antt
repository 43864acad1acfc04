use Rattle.std.proofs.Common.{ap, sym, ◌∙◌}
use Rattle.std.specs.Prelude.{option_copied}
use Rattle.close_all.proofs.Tables.{entered_one}
use Rattle.close_all.proofs.begins.enter_one.Goals as goal

pub returns-in_ok-environment-in-Some-clause-seen : goal.returns-in_ok-environment-in-Some-clause-seen
returns-in_ok-environment-in-Some-clause-seen c =
    let done = c.in_ok-environment-in-Some.ensures in
    entered_one c.args.decisions.now c.args.function.now c.args.scopes.now c.enter.new.scopes c.args.begins.now.items c.put.new.begins.items c.in_ok-environment-in-Some.environment c.in-Some.decision.now c.items.result.now _
    done.grown c.requires c.put.ensures done.seen c.items.ensures (sym c.function.ensures ∙ ap option_copied c.in-Some.is)
