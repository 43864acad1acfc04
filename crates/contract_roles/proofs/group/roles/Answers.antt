use Rattle.std.proofs.Common.{◌≡◌, ◌∙◌, map}
use Rattle.std.proofs.lemmas.Result.{IfOk-weaker}
use Rattle.contract_roles.specs.Roles.{as_role, group_roles, AreRoles}
use Rattle.contract_roles.proofs.Law.{group_same}
use Rattle.contract_roles.proofs.group.roles.Goals as goal

pub returns : goal.returns
returns c =
    let counts = c.args.counts.now in
    let bodies = c.args.program.now.bodies in
    let fs = c.args.functions.now in
    IfOk-weaker c.group_roles.result (λ v. map as_role v.items ≡ group_roles counts bodies fs) (λ v. AreRoles counts bodies fs v.items) (λ v e code h. e ∙ group_same counts bodies fs code h) c.group_roles.ensures
