use Rattle.std.proofs.Common.{rules, ◌≡◌, ◌<◌, ◌≤◌, ◌+◌, [], ◌∷◌, ◌++◌, length, drop, get_or, false}
use Rattle.std.proofs.lemmas.List.{drop_all}
use Rattle.std.specs.Prelude.{if◌then◌else◌, ◌&&◌, slice_get}
use Rattle.sml_tree.specs.IsBare.{is_value}
use Rattle.sml_derive.specs.declared.top_trees.TopTree.{TopTree}
use Rattle.sml_derive.proofs.Links.{begun_links, one_link_less, all_linked}
use Rattle.sml_derive.proofs.Roots.{one_off}
use Rattle.sml_derive.proofs.outline.outline_of.Goals as goal

abbrev nowhere : TopTree
nowhere = record { place = record { file = 0; line = 0; col = 0 }; first = false; shown = false }

pub loop-tree-init : goal.loop-tree-init
loop-tree-init c = λ end tops k e h. begun_links c.args.nodes.now end tops c.args.trees.now c.new-decs.result c.new-shown.result k e h c.new-decs.ensures c.new-shown.ensures

pub loop-tree-preserved : goal.loop-tree-preserved
loop-tree-preserved c = λ end tops k e h.
    let more : c.loop-tree.tree-index < length c.args.trees.now = search rules in
    let x : TopTree = get_or c.args.trees.now c.loop-tree.tree-index nowhere in
    let decs : c.push_if.new.numbers ≡ c.loop-tree.decs ++ (if x.first then c.loop-tree.at ∷ [] else []) = search rules in
    let shown : c.push_if-in-loop-tree.new.numbers ≡ c.loop-tree.shown ++ (if x.shown && is_value (slice_get c.args.nodes.now c.parts_of_let-dec.result.0) then c.parts_of_let-dec.result.0 ∷ [] else []) = search rules in
    one_link_less c.args.nodes.now tops (drop c.loop-tree.tree-index c.args.trees.now) (drop (c.loop-tree.tree-index + 1) c.args.trees.now) x c.loop-tree.at c.parts_of_let-dec.result.0 c.parts_of_let-dec.result.1 c.loop-tree.decs c.loop-tree.shown c.push_if.new.numbers c.push_if-in-loop-tree.new.numbers
    (one_off c.args.trees.now c.loop-tree.tree-index nowhere more) (c.loop-tree.invariant end tops k e h) c.parts_of_let-dec.ensures decs shown

pub returns : goal.returns
returns c = λ end tops k e h.
    let over : length c.args.trees.now ≤ c.loop-tree.tree-index = search rules in
    let none : drop c.loop-tree.tree-index c.args.trees.now ≡ [] = drop_all c.loop-tree.tree-index c.args.trees.now over in
    all_linked c.args.nodes.now tops (drop c.loop-tree.tree-index c.args.trees.now) c.loop-tree.at c.loop-tree.decs c.loop-tree.shown none (c.loop-tree.invariant end tops k e h)
