use Rattle.std.proofs.Common.{refl, ◌∙◌, arith}
use Rattle.variable_users.specs.Rows.{rows_of}
use Rattle.closure_layouts.proofs.Rows.{user_more}
use Rattle.closure_layouts.proofs.tables.add_class.Goals as goal

pub loop-user-preserved : goal.loop-user-preserved
loop-user-preserved c = record {
  len = c.in_ok-put.ensures.len ∙ c.loop-user.invariant.len;
  members = λ y z lt.
      user_more c.args.users.now c.loop-user.user-index _ _ c.args.n y z (rows_of c.args.sets.now.items) (rows_of c.loop-user.sets.items) (rows_of c.put.new.sets.items) c.loop-user-test.true refl (c.loop-user.invariant.members y z lt) (c.in_ok-put.ensures.members y z (omega (arith, lt, c.loop-user.invariant.len)));
}
