use Rattle.rv_acts.proofs.Arena.{arena_watches}
use Rattle.rv_acts.proofs.arena_is_seen.Goals as goal

pub returns : goal.returns
returns c I laid ws = arena_watches I laid ws
