use Rattle.std.proofs.Common.{sym, subst}
use Rattle.cps_ir.specs.Program.{tree_of}
use Rattle.label_order.specs.Order.{AreApart}
use Rattle.closure_plan.proofs.Apart.{slim_apart}
use Rattle.closure_share.proofs.pass.close.Goals as goal

pub found-requires : goal.found-requires
found-requires c = slim_apart (tree_of c.args.program.now) c.requires

pub plan_of-requires-clause-apart : goal.plan_of-requires-clause-apart
plan_of-requires-clause-apart c = subst AreApart (sym c.in_ok-known.ensures.functions) (slim_apart (tree_of c.args.program.now) c.requires)
