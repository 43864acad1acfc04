use Rattle.std.proofs.Common.{◌≡◌, ◌++◌, drop}
use Rattle.infer_parts.specs.Written.{paired}
use Rattle.infer_parts.proofs.written.paired.Given as goal

abbrev pub invariant-vars : goal.invariant-vars
invariant-vars l = l.given.items ++ paired (drop l.at l.vars) (drop l.at l.args) ≡ paired l.vars l.args
