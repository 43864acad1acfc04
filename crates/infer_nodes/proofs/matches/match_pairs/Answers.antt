use Rattle.std.proofs.Common.{rules, ◌≤◌, length}
use Rattle.infer_nodes.proofs.Ruled.{one_rule, all_rules}
use Rattle.infer_nodes.proofs.matches.match_pairs.Goals as goal

pub rules-preserved : goal.rules-preserved
rules-preserved c =
    one_rule c.args.bare.now c.args.types.now c.args.rules.now c.rules.rule-index _ c.args.from c.args.to c.in_ok-pat.pat c.in_ok-body.body c.rules.pairs c.push.new.self c.push-in-rules.new.self c.rules-test.true c.requires.from c.requires.to c.in_ok-pat.ensures c.in_ok-body.ensures c.in_ok-push.ensures.ok c.in_ok-push-2.ensures.ok c.rules.invariant

pub returns : goal.returns
returns c =
    let end : length c.args.rules.now ≤ c.rules.rule-index = search rules in
    all_rules c.args.bare.now c.args.types.now c.args.rules.now c.rules.rule-index c.args.from c.args.to c.rules.pairs end c.rules.invariant
