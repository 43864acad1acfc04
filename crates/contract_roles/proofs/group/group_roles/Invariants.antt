use Rattle.std.specs.Prelude.{◌≡◌, map, take}
use Rattle.contract_roles.specs.Roles.{as_role, role_of}
use Rattle.contract_roles.proofs.group.group_roles.Given as goal

abbrev pub invariant-loop-function : goal.invariant-loop-function
invariant-loop-function l = map as_role l.roles.items ≡ map (role_of l.counts l.program.bodies l.replaced.items) (take l.function-index l.functions)
