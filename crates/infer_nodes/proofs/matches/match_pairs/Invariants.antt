use Rattle.std.proofs.Common.{take}
use Rattle.sml_unify.specs.Solved.{under}
use Rattle.infer_nodes.specs.Posed.{Says}
use Rattle.infer_nodes.specs.Asked.{MatchAsks}
use Rattle.infer_nodes.proofs.matches.match_pairs.Given as goal

abbrev pub invariant-rules : goal.invariant-rules
invariant-rules l =
    Says l.types (λ f. MatchAsks l.bare f (take l.rule-index l.rules) (under l.types f l.from.0) (under l.types f l.to.0)) l.pairs
