use Rattle.std.proofs.Common.{rules, ◌≡◌, ◌<◌, ◌≤◌, ◌+◌, [], length, drop, get_or}
use Rattle.std.proofs.lemmas.List.{drop_all}
use Rattle.sml_derive.proofs.TopLemmas.{one_top_less, no_tops_left}
use Rattle.sml_derive.proofs.Roots.{one_off}
use Rattle.sml_derive.proofs.top_trees.tops.Goals as goal

pub loop-at-preserved : goal.loop-at-preserved
loop-at-preserved c = λ terms k.
    let more : c.loop-at.at-index < length c.args.decs.now = search rules in
    one_top_less c.args.parsed.now terms c.args.walk.now c.loop-at.walk c.top.new.walk c.args.trees.now.items c.loop-at.trees.items c.top.new.trees.items (get_or c.args.decs.now c.loop-at.at-index 0) (drop c.loop-at.at-index c.args.decs.now) (drop (c.loop-at.at-index + 1) c.args.decs.now)
    (one_off c.args.decs.now c.loop-at.at-index 0 more) (c.loop-at.invariant terms k) c.in_ok-top.ensures

pub returns : goal.returns
returns c = λ terms k.
    let over : length c.args.decs.now ≤ c.loop-at.at-index = search rules in
    let none : drop c.loop-at.at-index c.args.decs.now ≡ [] = drop_all c.loop-at.at-index c.args.decs.now over in
    no_tops_left c.args.parsed.now terms c.args.walk.now c.loop-at.walk c.args.trees.now.items c.loop-at.trees.items (drop c.loop-at.at-index c.args.decs.now) none (c.loop-at.invariant terms k)
