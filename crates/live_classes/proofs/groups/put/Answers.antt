use Rattle.std.proofs.Common.{Some}
use Rattle.live_classes.proofs.Grouping.{written}
use Rattle.live_classes.proofs.groups.put.Goals as goal

pub returns : goal.returns
returns c = written c.args.groups.now c.insert.new.self c.args.key (Some c.args.row) c.in_ok-insert.ensures.updates.0
