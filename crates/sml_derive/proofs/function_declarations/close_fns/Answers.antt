use Rattle.sml_derive.specs.FunctionDeclarations.{fn_end}
use Rattle.sml_derive.proofs.Times.{no_times, once_more}
use Rattle.sml_derive.proofs.function_declarations.close_fns.Goals as goal

pub loop-init : goal.loop-init
loop-init c = no_times c.args.walk.now (fn_end c.args.place)

pub loop-preserved : goal.loop-preserved
loop-preserved c = once_more c.args.walk.now c.loop.walk c.close_fn.new.walk c.loop.counter (fn_end c.args.place) c.loop.invariant c.in_ok-close_fn.ensures
