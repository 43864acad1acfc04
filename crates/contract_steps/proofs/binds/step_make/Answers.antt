use Rattle.std.proofs.Common.{refl}
use Rattle.std.proofs.lemmas.Result.{on_ok_weaker}
use Rattle.contract_steps.specs.State.{state_of}
use Rattle.contract_steps.proofs.Forms.{make_is}
use Rattle.contract_steps.proofs.binds.step_make.Goals as goal

pub returns : goal.returns
returns c =
    let e = c.in_ok-left.ensures in
    on_ok_weaker c.put_left.result
    (λ h. make_is c.args.counts.now c.args.task (state_of c.args.round.now) _ c.as_slice.result.now c.as_slice.ensures.value c.args.var c.args.shape c.args.atoms.now _ e.left refl e.blocks refl h refl)
    c.put_left.ensures
