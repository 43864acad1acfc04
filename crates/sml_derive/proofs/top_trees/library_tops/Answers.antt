use Rattle.std.proofs.Common.{rules, ◌≡◌, ◌<◌, ◌≤◌, ◌+◌, [], length, drop, get_or}
use Rattle.std.proofs.lemmas.List.{drop_all}
use Rattle.sml_derive.proofs.TopLemmas.{one_library_less, no_library_left}
use Rattle.sml_derive.proofs.Roots.{one_off}
use Rattle.sml_derive.proofs.top_trees.library_tops.Goals as goal

pub loop-at-preserved : goal.loop-at-preserved
loop-at-preserved c = λ terms k.
    let more : c.loop-at.at-index < length c.args.decs.now = search rules in
    one_library_less c.args.parsed.now terms c.args.walk.now c.loop-at.walk c.library_top.new.walk [] c.loop-at.trees.items c.library_top.new.trees.items (get_or c.args.decs.now c.loop-at.at-index 0) (drop c.loop-at.at-index c.args.decs.now) (drop (c.loop-at.at-index + 1) c.args.decs.now)
    (one_off c.args.decs.now c.loop-at.at-index 0 more) (c.loop-at.invariant terms k) c.in_ok-library_top.ensures

pub returns : goal.returns
returns c = λ terms k.
    let over : length c.args.decs.now ≤ c.loop-at.at-index = search rules in
    let none : drop c.loop-at.at-index c.args.decs.now ≡ [] = drop_all c.loop-at.at-index c.args.decs.now over in
    no_library_left c.args.parsed.now terms c.args.walk.now c.loop-at.walk [] c.loop-at.trees.items (drop c.loop-at.at-index c.args.decs.now) none (c.loop-at.invariant terms k)
