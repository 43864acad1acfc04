use Rattle.std.proofs.Common.{refl}
use Rattle.std.proofs.lemmas.Result.{on_ok_weaker}
use Rattle.contract_steps.specs.State.{state_of}
use Rattle.contract_steps.proofs.Forms.{prim_is}
use Rattle.contract_steps.proofs.binds.step_prim.Goals as goal

pub returns : goal.returns
returns c =
    on_ok_weaker c.put_left.result
    (λ h. prim_is c.args.counts.now c.args.task (state_of c.args.round.now) _ c.as_slice-places.result.now c.as_slice-places.ensures.value c.args.var c.args.primitive c.args.atoms.now _ c.in_ok-left.ensures refl refl refl h refl)
    c.put_left.ensures
