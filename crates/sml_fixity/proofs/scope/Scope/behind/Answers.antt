use Rattle.std.proofs.Common.{arith, rules}
use Rattle.sml_fixity.proofs.ScopeLemmas.{take_on}
use Rattle.sml_fixity.proofs.scope.Scope.behind.Goals as goal

pub loop-i-preserved : goal.loop-i-preserved
loop-i-preserved c = rw (take_on c.self.inside.directives.items c.args.from c.loop-i.i c.index.result.now (omega arith) (omega arith)) (rw (← c.loop-i.invariant) (search rules))
