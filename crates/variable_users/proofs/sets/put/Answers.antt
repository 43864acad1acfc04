use Rattle.std.proofs.Common.{rules, ◌<◌, ◌≤◌, length}
use Rattle.variable_users.proofs.Putting.{put_one, past_one, on_ok}
use Rattle.variable_users.proofs.sets.put.Goals as goal

pub returns-in-None-clause-members : goal.returns-in-None-clause-members
returns-in-None-clause-members c y z lt =
    let past : length c.args.sets.now.items ≤ c.args.x = search rules in
    past_one c.args.x c.args.n y z c.args.sets.now.items past lt

pub returns-in-Some-clause-members : goal.returns-in-Some-clause-members
returns-in-Some-clause-members c =
    let within : c.args.x < length c.args.sets.now.items = search rules in
    on_ok c.insert.result _ _ (λ s y z lt. put_one c.args.sets.now.items c.args.x c.args.n y z c.in-Some.set.now c.insert.new.set within c.in-Some.ensures.value s) c.insert.ensures
