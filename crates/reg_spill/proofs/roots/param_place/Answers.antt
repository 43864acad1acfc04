use Rattle.std.proofs.Common.{refl}
use Rattle.place_laws.specs.Place.{at_params, nowhere}
use Rattle.reg_spill.proofs.Params.{params_more, params_end}
use Rattle.reg_spill.proofs.roots.param_place.Goals as goal

pub loop-param-preserved : goal.loop-param-preserved
loop-param-preserved c =
    params_more c.args.params.now c.loop-param.param-index _ _ c.loop-param.place c.in_ok-place.place c.loop-param.found c.param_or-found.result c.args.variable (at_params c.args.params.now 0 nowhere c.args.variable) c.loop-param-test.true refl c.in_ok-place.ensures c.param_or-found.ensures c.loop-param.invariant

pub returns : goal.returns
returns c = params_end c.args.params.now c.loop-param.param-index c.loop-param.place c.loop-param.found c.args.variable (at_params c.args.params.now 0 nowhere c.args.variable) c.loop-param-test.false c.loop-param.invariant
