use Rattle.std.proofs.Common.{◌<◌, ℕ, length, map, drop, get_or, suc, true, rules}
use Rattle.expand_types.proofs.OnceLemmas.{pushed, seen_more, seen_on, keys_on}
use Rattle.expand_types.proofs.type_variables.push_each_once.Goals as goal

pub loop-key-preserved : goal.loop-key-preserved
loop-key-preserved c =
    let more = c.args.more.now in
    let i = c.loop-key.key-index in
    let inside : i < length more = search rules in
    let key : ℕ = get_or more i 0 in
    let step = c.in_ok-push_once.ensures in (
      keys_on (map (λ v. v.0) c.loop-key.seen) (map (λ v. v.0) c.push_once.new.seen) c.loop-key.keys.items _ more _ i inside (pushed true c.loop-key.seen c.push_once.new.seen c.loop-key.keys.items _ key (drop (suc i) more) step.keys step.seen) c.loop-key.invariant.0,
      λ x. seen_on more i x _ _ _ inside (seen_more true c.loop-key.seen c.push_once.new.seen key x step.seen) (c.loop-key.invariant.1 x),
    )
