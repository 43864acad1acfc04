use Rattle.std.proofs.Common.{◌≡◌, ◌++◌, drop, map}
use Rattle.convert_decide.proofs.decide.needed.Given as goal

abbrev pub invariant-loop-fact : goal.invariant-loop-fact
invariant-loop-fact l =
    l.own ++ map (λ f. f.needs) (drop l.fact-index l.facts) ≡ map (λ f. f.needs) l.facts
