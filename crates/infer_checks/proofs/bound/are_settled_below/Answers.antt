use Rattle.std.proofs.Common.{rules, arith, ◌≤◌, List, IsTrue, subst, below_more}
use Rattle.std.specs.Prelude.{slice_get}
use Rattle.sml_tree.specs.declared.bare.Node.{Node}
use Rattle.infer_state.specs.Fits.{settled_at}
use Rattle.infer_checks.specs.Bound.{HaveSchemesAt}
use Rattle.infer_checks.proofs.BoundFacts.{all_settled}
use Rattle.infer_checks.proofs.bound.are_settled_below.Goals as goal

pub nodes-preserved : goal.nodes-preserved
nodes-preserved c forms =
    let known = settled_at forms c.args.settled.now in
    let found : IsTrue c.are_settled_at.result = search rules in
    below_more
    (λ i. HaveSchemesAt known (slice_get c.args.bare.now.nodes i))
    c.nodes.at
    (c.nodes.invariant forms)
    (subst (λ (nodes : List Node). HaveSchemesAt known (slice_get nodes c.nodes.at)) c.items-nodes.ensures (c.are_settled_at.ensures found forms))

pub returns : goal.returns
returns c _ forms =
    let past : c.args.count ≤ c.nodes.at = search rules in
    all_settled c.args.bare.now c.args.count (settled_at forms c.args.settled.now) c.requires.numbered c.requires.prefix (λ i l. c.nodes.invariant forms i (omega (arith, past, l)))
