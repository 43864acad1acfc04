use Rattle.infer_tables.specs.Known.{IsStep}
use Rattle.infer_tables.proofs.renew.renew.Given as goal

abbrev pub invariant-numbers : goal.invariant-numbers
invariant-numbers l = IsStep l.bare (λ t. Unit {0}) 0 l.fn.types l.fn.known l.types l.known
