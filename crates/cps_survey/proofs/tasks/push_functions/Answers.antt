use Rattle.std.proofs.Common.{arith}
use Rattle.sml_tree.specs.Sets.{row_at}
use Rattle.cps_survey.specs.Steps.{function_tasks}
use Rattle.cps_survey.proofs.Turns.{pushed_more}
use Rattle.cps_survey.proofs.tasks.push_functions.Goals as goal

pub loop-i-preserved : goal.loop-i-preserved
loop-i-preserved c = record {
  within = omega (arith, c.loop-i.invariant.within);
  done = pushed_more (function_tasks (row_at c.args.frees.now)) c.args.functions.now c.loop-i.i _ c.index-functions-i.result c.args.work.now.items c.loop-i.work.items c.push_function.new.work.items c.loop-i-test.true c.loop-i.invariant.within c.index-functions-i.is c.loop-i.invariant.done c.in_ok-push_function.ensures;
}
