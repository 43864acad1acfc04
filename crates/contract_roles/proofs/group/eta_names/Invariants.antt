use Rattle.std.specs.Prelude.{◌≡◌, ◌++◌, drop}
use Rattle.contract_roles.specs.Roles.{eta_names}
use Rattle.contract_roles.proofs.group.eta_names.Given as goal

abbrev pub invariant-loop-function : goal.invariant-loop-function
invariant-loop-function l = l.names.items ++ eta_names l.program.bodies (drop l.function-index l.functions) ≡ eta_names l.program.bodies l.functions
