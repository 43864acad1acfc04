use Rattle.std.proofs.Common.{◌≡◌, ◌∷◌, ◌++◌, [], map, take, sym, ap, ◌∙◌, arith}
use Rattle.std.proofs.lemmas.List.{map_more, take_all}
use Rattle.std.proofs.lemmas.List.Sorted.{IsNonDecreasingBy-from_sort}
use Rattle.sml_tree.specs.Order.{rank}
use Rattle.cps_ir.specs.Slim.{Layout}
use Rattle.variable_users.proofs.Counts.{are_ranks}
use Rattle.variable_users.proofs.labels.ranks.Goals as goal

pub loop-layout-preserved : goal.loop-layout-preserved
loop-layout-preserved c =
    let one : c.rank.result ≡ rank c.layout-item.result.point = c.rank.ensures ∙ ap rank c.point.ensures in
    c.in_ok-push.ensures.items ∙ ap (λ rs. rs ++ c.rank.result ∷ []) c.loop-layout.invariant
    ∙ ap (λ r. map (λ (k : Layout). rank k.point) (take c.loop-layout.layout-index c.args.layouts.now) ++ r ∷ []) (one ∙ ap (λ (k : Layout). rank k.point) c.layout-item.is)
    ∙ sym (map_more (λ (k : Layout). rank k.point) c.args.layouts.now c.loop-layout.layout-index _ c.loop-layout-test.true)

pub returns : goal.returns
returns c =
    are_ranks c.args.layouts.now c.loop-layout.ranks.items c.sort.new.self.items (c.loop-layout.invariant ∙ ap (map (λ (k : Layout). rank k.point)) (take_all c.loop-layout.layout-index c.args.layouts.now (omega (arith, c.loop-layout-test.false))))
    c.sort.ensures.permutation (IsNonDecreasingBy-from_sort (λ x. x) c.sort.new.self.items c.in_ok-sort.ensures.sorted)
