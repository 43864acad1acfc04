use Rattle.std.proofs.Common.{◌<◌, subst}
use Rattle.cps_ir.specs.Program.{code_of_end}
use Rattle.contract_roles.proofs.Vars.{bound_first}
use Rattle.contract_roles.proofs.target.eta_of_body.Goals as goal

pub returns-then-len-gt0 : goal.returns-then-len-gt0
returns-then-len-gt0 c part =
    bound_first c.args.function.now.name c.args.function.now.params part c.args.body.now.binds (code_of_end part c.args.body.now.end) (subst (λ n. 0 < n) c.len.ensures c.if-len-gt0.true)
