use Rattle.convert_steps.proofs.Ended.{plain_written}
use Rattle.convert_steps.proofs.ends.plain.Goals as goal

pub returns : goal.returns
returns c =
    λ own terms w.
    plain_written own terms w c.args.binds.now _ c.args.operation c.args.atoms c.args.scope c.args.next c.in_ok-later.later c.args.continuation c.in_ok-push.ensures.ok c.in_ok-later.ensures
