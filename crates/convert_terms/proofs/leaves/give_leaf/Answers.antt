use Rattle.convert_terms.proofs.Leaf.{leaf_given, leaf_none}
use Rattle.std.proofs.Common.{sym, ◌∙◌}
use Rattle.convert_terms.proofs.leaves.give_leaf.Goals as goal

pub returns-in-Some : goal.returns-in-Some
returns-in-Some c =
    λ own terms bs.
    leaf_given own terms c.args.world.now bs c.go.new.self c.args.term.now c.args.scope c.args.next c.args.continuation c.in-Some.atom c.in_ok-go.ensures.bounds c.in_ok-go.ensures.present c.present.ensures.here (sym c.leaf.ensures ∙ c.in-Some.is)

pub returns-in-None : goal.returns-in-None
returns-in-None c =
    λ own terms bs.
    leaf_none own terms c.args.world.now bs c.go.new.self c.args.term.now c.args.scope c.args.next c.args.continuation c.in_ok-go.ensures.bounds c.in_ok-go.ensures.present c.present.ensures.here (sym c.leaf.ensures ∙ c.in-None.is)
