use Rattle.std.specs.Prelude.{codes}
use Rattle.heap_probes.specs.Rules.{numbered}
use Rattle.heap_probes.proofs.Parts.{joins, front}
use Rattle.heap_probes.proofs.limit.LimitProbeProbe.line.Goals as goal

pub returns-in-Ok : goal.returns-in-Ok
returns-in-Ok c = joins (numbered (codes "probe limit ") c.args.self.now.limit) (codes " kept") _ _ _ c.put.result c.in-Ok.ensures c.put.ensures

pub returns-in-Err : goal.returns-in-Err
returns-in-Err c = front (numbered (codes "probe limit ") c.args.self.now.limit) (codes " kept") _ _ c.in-Err.ensures
