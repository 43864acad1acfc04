use Rattle.std.proofs.Common.{◌≡◌, ◌++◌, reverse}
use Rattle.sml_expansion.specs.Scoped.{oldest}
use Rattle.sml_expansion.proofs.scoped.Scoped.cut.Given as goal

abbrev pub invariant-loop-key : goal.invariant-loop-key
invariant-loop-key g l = l.self ≡ reverse l.yielded ++ oldest l.from l.fn.self
