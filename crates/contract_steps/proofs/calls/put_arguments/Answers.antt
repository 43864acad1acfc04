use Rattle.std.proofs.Common.{sym, ◌∙◌}
use Rattle.contract_steps.proofs.Short.{arguments_end}
use Rattle.contract_steps.proofs.calls.put_arguments.Goals as goal

pub returns-after-loop-i : goal.returns-after-loop-i
returns-after-loop-i c = sym ((arguments_end c.args.params.now c.args.atoms.now c.loop-i.i c.loop-i.places.items).0 c.loop-i-test.false) ∙ c.loop-i.invariant

pub returns-else-i-atoms : goal.returns-else-i-atoms
returns-else-i-atoms c = sym ((arguments_end c.args.params.now c.args.atoms.now c.loop-i.i c.loop-i.places.items).1 c.if-i-atoms.false) ∙ c.loop-i.invariant
