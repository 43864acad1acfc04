use Rattle.std.proofs.Common.{rules, ◌≡◌, ◌∙◌}
use Rattle.live_classes.proofs.Among.{class_made}
use Rattle.live_classes.proofs.classing.class.Goals as goal

pub returns : goal.returns
returns c =
    let vars : c.in_ok-vars.vars.items ≡ c.args.group.now = search rules in
    class_made c.args.group.now c.args.users.now c.from_vec.result c.from_vec-2.result (c.from_vec.ensures ∙ vars) (c.from_vec-2.ensures ∙ c.in_ok-labels.ensures)
