use Rattle.std.proofs.Common.{rules, ◌≡◌, sym, subst, ◌∙◌}
use Rattle.sml_tree.specs.IsBare.{IsAscending}
use Rattle.cps_free.proofs.Sets.{sorted_ascending}
use Rattle.variable_users.proofs.sets.listed.Goals as goal

pub returns-clause-ascending : goal.returns-clause-ascending
returns-clause-ascending c =
    let same : c.in_ok-members.members.items ≡ c.args.set.now.keys = search rules in
    subst (IsAscending 0) (sym (c.from_vec.ensures ∙ same)) (sorted_ascending c.args.set.now.keys c.len.ensures.ordered)
