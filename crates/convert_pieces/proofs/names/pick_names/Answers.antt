use Rattle.std.proofs.Common.{refl}
use Rattle.convert_pieces.proofs.Ways.{names_more, names_ended}
use Rattle.convert_pieces.proofs.names.pick_names.Goals as goal

pub loop-named-preserved : goal.loop-named-preserved
loop-named-preserved c =
    λ σ rest.
    names_more _ _ _ c.args.names.now c.loop-named.named-index _ c.named-item.result c.steps.result.now c.loop-named.found _ c.args.subject c.in_ok-reached.reached.atom c.loop-named.way c.pick.new.way c.loop-named.later c.in_ok-reached.reached.next σ rest _ c.loop-named-test.true c.named-item.is c.steps.ensures refl c.in_ok-push.ensures.ok (c.loop-named.invariant σ rest)
    (λ r. c.in_ok-reached.ensures r)

pub returns : goal.returns
returns c =
    λ σ rest.
    names_ended _ _ c.args.names.now c.loop-named.named-index c.loop-named.found c.args.subject c.loop-named.way c.loop-named.later σ rest _ c.loop-named-test.false (c.loop-named.invariant σ rest)
