use Rattle.std.proofs.Common.{◌∙◌, arith}
use Rattle.variable_users.specs.Rows.{rows_of}
use Rattle.variable_users.proofs.Putting.{put_more}
use Rattle.variable_users.proofs.users.add_label.Goals as goal

pub loop-x-preserved : goal.loop-x-preserved
loop-x-preserved c = record {
  len = c.in_ok-put.ensures.len ∙ c.loop-x.invariant.len;
  members = λ y z lt.
      put_more c.args.free.now c.loop-x.x-index _ c.args.label y z (rows_of c.args.sets.now.items) (rows_of c.loop-x.sets.items) (rows_of c.put.new.sets.items) c.loop-x-test.true (c.loop-x.invariant.members y z lt) (c.in_ok-put.ensures.members y z (omega (arith, lt, c.loop-x.invariant.len)));
}
