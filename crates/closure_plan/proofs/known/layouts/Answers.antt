use Rattle.closure_plan.proofs.Apart.{pointed_once}
use Rattle.closure_plan.proofs.known.layouts.Goals as goal

pub closure_layouts-requires-clause-once : goal.closure_layouts-requires-clause-once
closure_layouts-requires-clause-once c = pointed_once c.args.all.now c.requires.apart
