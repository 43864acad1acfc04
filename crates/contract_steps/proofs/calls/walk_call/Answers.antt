use Rattle.std.proofs.Common.{refl, ◌∙◌}
use Rattle.contract_steps.specs.State.{state_of}
use Rattle.contract_steps.proofs.Forms.{call_placed, call_stays}
use Rattle.contract_steps.proofs.calls.walk_call.Goals as goal

pub returns-in_ok-push-in-Some : goal.returns-in_ok-push-in-Some
returns-in_ok-push-in-Some c =
    call_placed c.args.task (state_of c.args.round.now) c.args.function c.args.atoms.now c.items-in-Some.result.now c.in-Some.placed c.take_placed.result c.as_slice.result.now c.items.result.now _
    c.take_placed.ensures.found c.in-Some.is c.as_slice.ensures.value (c.items-in-Some.ensures ∙ c.in_ok-atoms-in-Some.ensures) c.items.ensures c.put_arguments.ensures refl c.take_placed.ensures.placed refl c.in_ok-push-in-Some.ensures.items

pub returns-in_ok-end-in-None : goal.returns-in_ok-end-in-None
returns-in_ok-end-in-None c =
    call_stays c.args.task (state_of c.args.round.now) c.args.function c.args.atoms.now c.take_placed.result c.as_slice-in-None.result.now c.in_ok-end-in-None.end _
    c.take_placed.ensures.found c.in-None.is c.as_slice-in-None.ensures.value c.in_ok-end-in-None.ensures refl refl c.take_placed.ensures.placed c.put_end.ensures refl
