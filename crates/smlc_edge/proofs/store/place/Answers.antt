use Rattle.smlc_edge.proofs.Places.{place-within}
use Rattle.std.proofs.Common.{rules}
use Rattle.smlc_edge.proofs.store.place.Goals as goal

pub returns-in-Some-clause-within : goal.returns-in-Some-clause-within
returns-in-Some-clause-within c = place-within c.args.name.now c.args.entries.now.items c.in-Some.at (search rules)
