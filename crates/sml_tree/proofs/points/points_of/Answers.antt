use Rattle.std.proofs.Common.{◌≡◌, ◌<◌, ◌++◌, ℕ, Some, reverse, sym, ap, ◌∙◌, subst}
use Rattle.std.proofs.lemmas.Option.{slice_get-get_or, slice_get_past}
use Rattle.std.specs.Prelude.{slice_get, flat_map}
use Rattle.sml_tree.specs.Sets.{row_at}
use Rattle.sml_tree.specs.Free.{binds, free}
use Rattle.sml_tree.specs.Points.{spots_at, spots}
use Rattle.sml_tree.proofs.SameParts.{all_bound, all_free, parts_same, own_same}
use Rattle.sml_tree.proofs.Walk.{total, turns_at, none_spots, none_turns, some_spots, some_turns}
use Rattle.sml_tree.proofs.points.points_of.Goals as goal

pub loop-part-smaller : goal.loop-part-smaller
loop-part-smaller c =
    subst
    (λ ps. total (turns_at c.args.nodes.now) (reverse c.pop.new.self.items) < total (turns_at c.args.nodes.now) (reverse ps))
    (sym c.in-Some.ensures.items)
    (none_turns c.args.nodes.now c.requires c.pop.new.self.items c.in-Some.part (slice_get_past c.args.nodes.now c.in-Some.part.node c.if-at-nodes.false))

pub loop-part-preserved : goal.loop-part-preserved
loop-part-preserved c =
    none_spots c.args.nodes.now c.requires c.pop.new.self.items c.in-Some.part (slice_get_past c.args.nodes.now c.in-Some.part.node c.if-at-nodes.false) c.loop-part.found.items (spots c.args.nodes.now)
    (subst (λ ps. c.loop-part.found.items ++ flat_map (λ q. spots_at c.args.nodes.now q.node q.context) (reverse ps) ≡ spots c.args.nodes.now) c.in-Some.ensures.items c.loop-part.invariant)

pub loop-part-smaller-in-Continue-branch-4 : goal.loop-part-smaller-in-Continue-branch-4
loop-part-smaller-in-Continue-branch-4 c =
    let here : slice_get c.args.nodes.now c.in-Some.part.node ≡ Some c.index-nodes-at.result = slice_get-get_or _ _ c.index-nodes-at.result c.if-at-nodes.true ∙ ap Some (sym c.index-nodes-at.is) in
    let bound : (k : ℕ) → row_at c.deref-then-at-nodes-2.result.now k ≡ binds c.args.nodes.now k = λ k. ap (λ rows. row_at rows k) c.deref-then-at-nodes-2.ensures.value ∙ all_bound c.args.nodes.now c.requires c.in_ok-variables.variables.bound.items c.in_ok-variables.variables.free.items c.in_ok-variables.ensures k in
    let free_at : (k : ℕ) → row_at c.deref-then-at-nodes-3.result.now k ≡ free c.args.nodes.now k = λ k. ap (λ rows. row_at rows k) c.deref-then-at-nodes-3.ensures.value ∙ all_free c.args.nodes.now c.requires c.in_ok-variables.variables.bound.items c.in_ok-variables.variables.free.items c.in_ok-variables.ensures k in
    subst
    (λ ps. total (turns_at c.args.nodes.now) (reverse c.push_parts.new.work.items) < total (turns_at c.args.nodes.now) (reverse ps))
    (sym c.in-Some.ensures.items)
    (some_turns c.args.nodes.now c.requires c.pop.new.self.items c.in-Some.part c.index-nodes-at.result here c.push_parts.new.work.items (c.in_ok-push_parts.ensures ∙ ap (λ ps. c.pop.new.self.items ++ reverse ps) (parts_same _ _ _ _ bound free_at c.in-Some.part.node c.index-nodes-at.result c.in-Some.part.context)))

pub loop-part-preserved-in-Continue-branch-4 : goal.loop-part-preserved-in-Continue-branch-4
loop-part-preserved-in-Continue-branch-4 c =
    let here : slice_get c.args.nodes.now c.in-Some.part.node ≡ Some c.index-nodes-at.result = slice_get-get_or _ _ c.index-nodes-at.result c.if-at-nodes.true ∙ ap Some (sym c.index-nodes-at.is) in
    let bound : (k : ℕ) → row_at c.in_ok-variables.variables.bound.items k ≡ binds c.args.nodes.now k = all_bound c.args.nodes.now c.requires c.in_ok-variables.variables.bound.items c.in_ok-variables.variables.free.items c.in_ok-variables.ensures in
    let free_at : (k : ℕ) → row_at c.in_ok-variables.variables.free.items k ≡ free c.args.nodes.now k = all_free c.args.nodes.now c.requires c.in_ok-variables.variables.bound.items c.in_ok-variables.variables.free.items c.in_ok-variables.ensures in
    some_spots c.args.nodes.now c.requires c.pop.new.self.items c.in-Some.part c.index-nodes-at.result here c.push_parts.new.work.items
    (c.in_ok-push_parts.ensures ∙ ap (λ ps. c.pop.new.self.items ++ reverse ps) (parts_same _ _ _ _ (λ k. ap (λ rows. row_at rows k) c.deref-then-at-nodes-2.ensures.value ∙ bound k) (λ k. ap (λ rows. row_at rows k) c.deref-then-at-nodes-3.ensures.value ∙ free_at k) c.in-Some.part.node c.index-nodes-at.result c.in-Some.part.context))
    c.loop-part.found.items c.add_own.new.found.items (spots c.args.nodes.now)
    (c.in_ok-add_own.ensures ∙ ap (λ xs. c.loop-part.found.items ++ xs) (own_same _ _ _ _ (λ k. ap (λ rows. row_at rows k) c.deref.ensures.value ∙ bound k) (λ k. ap (λ rows. row_at rows k) c.deref-then-at-nodes.ensures.value ∙ free_at k) c.in-Some.part.node c.index-nodes-at.result c.in-Some.part.context))
    (subst (λ ps. c.loop-part.found.items ++ flat_map (λ q. spots_at c.args.nodes.now q.node q.context) (reverse ps) ≡ spots c.args.nodes.now) c.in-Some.ensures.items c.loop-part.invariant)
