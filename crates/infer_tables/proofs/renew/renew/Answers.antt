use Rattle.infer_tables.proofs.RenewFacts.{renewed_then}
use Rattle.infer_tables.proofs.renew.renew.Goals as goal

pub numbers-preserved : goal.numbers-preserved
numbers-preserved c = renewed_then c.args.bare.now c.args.types.now c.numbers.types c.renew_one.new.types c.args.known c.numbers.known c.in_ok-known.known c.numbers.invariant c.in_ok-known.ensures
