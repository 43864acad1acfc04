use Rattle.std.proofs.Common.{rules, ◌≤◌, length, IsTrue}
use Rattle.infer_state.specs.Fits.{settled_at}
use Rattle.infer_checks.specs.Bound.{HasScheme}
use Rattle.infer_checks.proofs.BoundFacts.{group_all}
use Rattle.infer_checks.proofs.ListFacts.{all_take, all_whole}
use Rattle.infer_checks.proofs.bound.are_group_settled.Goals as goal

pub bindings-preserved : goal.bindings-preserved
bindings-preserved c forms =
    let found : IsTrue c.is_settled.result = search rules in
    all_take (λ b. HasScheme (settled_at forms c.args.settled.now b.name.0)) c.args.bindings.now c.bindings.binding-index _ c.bindings-test.true (c.bindings.invariant forms) (c.is_settled.ensures found forms)

pub returns : goal.returns
returns c _ forms =
    let past : length c.args.bindings.now ≤ c.bindings.binding-index = search rules in
    group_all (λ x. HasScheme (settled_at forms c.args.settled.now x)) c.args.bindings.now (all_whole (λ b. HasScheme (settled_at forms c.args.settled.now b.name.0)) c.args.bindings.now c.bindings.binding-index past (c.bindings.invariant forms))
