use Rattle.std.proofs.Common.{rules, ◌≤◌, length, IsTrue}
use Rattle.infer_state.specs.Fits.{settled_at}
use Rattle.infer_checks.specs.Ending.{HasVars}
use Rattle.infer_checks.proofs.ListFacts.{all_take, all_whole}
use Rattle.infer_checks.proofs.values.have_vars.Goals as goal

pub names-preserved : goal.names-preserved
names-preserved c forms =
    let has : IsTrue c.has_vars.result = search rules in
    all_take (λ x. HasVars c.args.vars.now (settled_at forms c.args.settled.now x)) c.args.names.now c.names.name-index 0 c.names-test.true (c.names.invariant forms) (c.has_vars.ensures forms has)

pub returns : goal.returns
returns c _ forms =
    let past : length c.args.names.now ≤ c.names.name-index = search rules in
    all_whole (λ x. HasVars c.args.vars.now (settled_at forms c.args.settled.now x)) c.args.names.now c.names.name-index past (c.names.invariant forms)
