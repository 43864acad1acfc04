use Rattle.std.proofs.Common.{subst}
use Rattle.sml_tree.specs.Sets.{union, without, row_at}
use Rattle.cps_free.specs.Same.{AreSame}
use Rattle.cps_free.specs.Rows.{function_free}
use Rattle.cps_free.proofs.Steps.{over_more}
use Rattle.cps_free.proofs.binds.use_functions.Goals as goal

pub loop-function-preserved : goal.loop-function-preserved
loop-function-preserved c =
    let put : AreSame c.insert_but.new.set.keys (union (function_free (row_at c.args.frees.now) c.function-item.result) c.loop-function.set.keys) =
    subst (λ us. AreSame c.insert_but.new.set.keys (union (without (row_at c.args.frees.now c.function-item.result.body) us) c.loop-function.set.keys)) c.items.ensures
    (subst (λ us. AreSame c.insert_but.new.set.keys (union (without us c.items.result.now) c.loop-function.set.keys)) c.row.ensures c.in_ok-insert_but.ensures) in
    over_more (function_free (row_at c.args.frees.now)) c.args.functions.now c.loop-function.function-index _ c.function-item.result c.args.set.now.keys c.loop-function.set.keys c.insert_but.new.set.keys c.loop-function-test.true c.function-item.is c.loop-function.invariant put
