use Rattle.std.proofs.Common.{sym}
use Rattle.contract_roles.proofs.Vars.{vars_differ}
use Rattle.contract_roles.proofs.target.are_vars.Goals as goal

pub returns-then-params-atoms : goal.returns-then-params-atoms
returns-then-params-atoms c = sym (vars_differ c.args.params.now c.args.atoms.now c.if-params-atoms.true)
