use Rattle.std.proofs.Common.{sym, subst, ap, ◌∙◌}
use Rattle.std.specs.List.{AllByRecursion}
use Rattle.sml_tree.specs.IsBare.{IsAscending}
use Rattle.variable_users.specs.Rows.{rows_of, ArePut}
use Rattle.variable_users.proofs.Putting.{listed_more, all_listed, all_more, are_users}
use Rattle.variable_users.proofs.users.users_of_variables.Goals as goal

pub loop-set-preserved : goal.loop-set-preserved
loop-set-preserved c = record {
  rows = listed_more c.deref-set-items.result.now c.loop-set.set-index _ c.set-item.result c.loop-set.rows.items c.push.new.self.items c.in_ok-listed.field-0 c.loop-set-test.true c.set-item.is c.loop-set.invariant.rows c.in_ok-listed.ensures.items c.in_ok-push.ensures.items;
  ascend = subst (AllByRecursion (IsAscending 0)) (sym c.in_ok-push.ensures.items) (all_more (IsAscending 0) c.loop-set.rows.items c.in_ok-listed.field-0 c.loop-set.invariant.ascend c.in_ok-listed.ensures.ascending);
}

pub returns : goal.returns
returns c =
    let same = c.loop-set.invariant.rows ∙ all_listed c.deref-set-items.result.now c.loop-set.set-index c.loop-set-test.false ∙ ap rows_of c.deref-set-items.ensures.value in
    are_users c.args.layouts.now c.args.n c.loop-set.rows.items (subst (ArePut c.args.layouts.now c.args.layouts.now c.args.n) (sym same) c.in_ok-sets.ensures) c.loop-set.invariant.ascend
