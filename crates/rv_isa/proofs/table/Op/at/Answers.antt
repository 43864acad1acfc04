use Rattle.std.proofs.Common.{sym}
use Rattle.rv_isa.specs.Table.{op_at, shape_of, entries}
use Rattle.rv_isa.proofs.Picks.{pick_missed}
use Rattle.rv_isa.proofs.table.Op.at.Goals as goal

pub returns-in_default : goal.returns-in_default
unfolding op_at shape_of
returns-in_default c = sym (pick_missed entries c.args.key assumption)
