use Rattle.std.proofs.Common.{◌≡◌, ◌++◌, map, drop}
use Rattle.sml_expansion.proofs.scoped.Scoped.behind.Given as goal

abbrev pub invariant-loop-at : goal.invariant-loop-at
invariant-loop-at g l = l.newer.items ++ map (λ b. (b.0, b.1)) (drop l.at l.self-inside.log.items) ≡ map (λ b. (b.0, b.1)) (drop l.fn.count l.self-inside.log.items)
