use Rattle.std.proofs.Common.{◌≡◌, ◌++◌, drop}
use Rattle.infer_closing.specs.Found.{without}
use Rattle.infer_closing.proofs.vars.without.Given as goal

abbrev pub invariant-vars : goal.invariant-vars
invariant-vars l = l.found ++ without l.left (drop l.var-index l.vars) ≡ without l.left l.vars
