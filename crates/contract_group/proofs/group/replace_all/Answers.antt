use Rattle.std.proofs.Common.{sym, ◌∙◌}
use Rattle.contract_group.proofs.Ends.{places_end}
use Rattle.contract_group.proofs.group.replace_all.Goals as goal

pub returns-after-loop-i : goal.returns-after-loop-i
returns-after-loop-i c = sym ((places_end c.args.roles.now c.args.functions.now c.loop-i.i c.loop-i.places.items).0 c.loop-i-test.false) ∙ c.loop-i.invariant
