use Rattle.std.proofs.Common.{◌∙◌, ap, arith, map}
use Rattle.std.proofs.lemmas.List.{take_all}
use Rattle.sml_tree.specs.Sets.{has, without}
use Rattle.cps_free.proofs.Steps.{gone_more, without_none}
use Rattle.cps_free.proofs.binds.remove_names.Goals as goal

pub loop-function-init : goal.loop-function-init
loop-function-init c = without_none c.args.set.now.keys

pub loop-function-preserved : goal.loop-function-preserved
loop-function-preserved c =
    gone_more c.args.functions.now c.loop-function.function-index _ c.function-item.result c.args.set.now.keys c.loop-function.set.keys c.remove.new.set.keys c.loop-function-test.true c.function-item.is c.loop-function.invariant c.remove.ensures

pub returns : goal.returns
returns c z =
    c.loop-function.invariant z ∙ ap (λ fs. has (without c.args.set.now.keys (map (λ f. f.name) fs)) z) (take_all c.loop-function.function-index c.args.functions.now (omega (arith, c.loop-function-test.false)))
