use Rattle.std.proofs.Common.{◌+◌, ◌<◌, ℕ, List, [], ◌∷◌, ◌++◌, length, Some, sym, ap, ◌∙◌, subst}
use Rattle.std.proofs.lemmas.Option.{slice_get-get_or}
use Rattle.sml_unify.specs.declared.order.Headed.{Headed}
use Rattle.sml_unify.specs.declared.order.Step.{Step}
use Rattle.sml_unify.specs.declared.order.Step.TheVariants.{Reach}
use Rattle.sml_unify.specs.Steps.{logged}
use Rattle.sml_unify.specs.Orders.{opening}
use Rattle.sml_unify.proofs.Unvisited.{unvisited}
use Rattle.sml_unify.proofs.Visits.{visit_first, visit_again}
use Rattle.sml_unify.proofs.OrderWalk.{IsOrdering, ordering_note, ordering_there, ordering_again, ordering_open, opening_less}
use Rattle.sml_unify.proofs.order.order.Goals as goal

pub loop-step-preserved-in-Continue-branch-2 : goal.loop-step-preserved-in-Continue-branch-2
loop-step-preserved-in-Continue-branch-2 c =
    subst
    (λ (order : List Headed). IsOrdering c.args.forms.now c.args.bound.now c.args.ty.0 c.pop.new.self.items c.loop-step.seen.keys order)
    (sym c.in_ok-push-in-Note.ensures.items)
    (ordering_note c.args.forms.now c.args.bound.now c.requires.solved c.args.ty.0 c.loop-step.work.items c.pop.new.self.items c.loop-step.seen.keys c.loop-step.order.items c.loop-step.invariant c.in-Note.entry (c.in-Some.ensures.items ∙ ap (λ t. c.pop.new.self.items ++ t ∷ []) c.in-Note.is))

pub head-now-requires-clause-here : goal.head-now-requires-clause-here
head-now-requires-clause-here c =
    let whole = c.in-Some.ensures.items ∙ ap (λ t. c.pop.new.self.items ++ t ∷ []) c.in-Reach.is in
    ordering_there c.args.forms.now c.args.bound.now c.requires.solved c.args.ty.0 c.loop-step.work.items c.pop.new.self.items c.loop-step.seen.keys c.loop-step.order.items c.loop-step.invariant c.in-Reach.next whole

pub loop-step-smaller-in-Continue-branch-4 : goal.loop-step-smaller-in-Continue-branch-4
loop-step-smaller-in-Continue-branch-4 c =
    let whole = c.in-Some.ensures.items ∙ ap (λ t. c.pop.new.self.items ++ t ∷ []) c.in-Reach.is in
    let q = slice_get-get_or c.args.forms.now c.head-now.result.0 c.index-forms-now.result c.head-now.ensures.there ∙ ap Some (sym c.index-forms-now.is) in
    let v = visit_first c.loop-step.seen.keys c.head-now.result.0 c.in_ok-first-in-Reach.first c.visit.new.seen.keys c.in_ok-first-in-Reach.ensures c.if-first.true in
    subst
    (λ (ws : List Step). unvisited (logged c.visit.new.seen.keys) c.args.forms.now + length c.open.new.work.items < unvisited (logged c.loop-step.seen.keys) c.args.forms.now + length ws)
    (sym whole)
    (subst
    (λ (ws : List Step). unvisited (logged c.visit.new.seen.keys) c.args.forms.now + length ws < unvisited (logged c.loop-step.seen.keys) c.args.forms.now + length (c.pop.new.self.items ++ Reach c.in-Reach.next ∷ []))
    (sym c.in_ok-open-in-Reach.ensures)
    (subst
    (λ (is : List ℕ). unvisited (logged is) c.args.forms.now + length (c.pop.new.self.items ++ opening (record { ty = c.in-Reach.next; head = c.head-now.result }) c.index-forms-now.result) < unvisited (logged c.loop-step.seen.keys) c.args.forms.now + length (c.pop.new.self.items ++ Reach c.in-Reach.next ∷ []))
    (sym v.1)
    (opening_less c.args.forms.now c.args.bound.now c.requires.solved c.args.ty.0 c.loop-step.work.items c.pop.new.self.items c.loop-step.seen.keys c.loop-step.order.items c.loop-step.invariant c.in-Reach.next c.head-now.result whole (record { free = c.head-now.ensures.free; same = c.head-now.ensures.same }) c.index-forms-now.result c.head-now.ensures.there q v.0)))

pub loop-step-preserved-in-Continue-branch-4 : goal.loop-step-preserved-in-Continue-branch-4
loop-step-preserved-in-Continue-branch-4 c =
    let whole = c.in-Some.ensures.items ∙ ap (λ t. c.pop.new.self.items ++ t ∷ []) c.in-Reach.is in
    let q = slice_get-get_or c.args.forms.now c.head-now.result.0 c.index-forms-now.result c.head-now.ensures.there ∙ ap Some (sym c.index-forms-now.is) in
    let v = visit_first c.loop-step.seen.keys c.head-now.result.0 c.in_ok-first-in-Reach.first c.visit.new.seen.keys c.in_ok-first-in-Reach.ensures c.if-first.true in
    subst
    (λ (ws : List Step). IsOrdering c.args.forms.now c.args.bound.now c.args.ty.0 ws c.visit.new.seen.keys c.loop-step.order.items)
    (sym c.in_ok-open-in-Reach.ensures)
    (subst
    (λ (is : List ℕ). IsOrdering c.args.forms.now c.args.bound.now c.args.ty.0 (c.pop.new.self.items ++ opening (record { ty = c.in-Reach.next; head = c.head-now.result }) c.index-forms-now.result) is c.loop-step.order.items)
    (sym v.1)
    (ordering_open c.args.forms.now c.args.bound.now c.requires.solved c.args.ty.0 c.loop-step.work.items c.pop.new.self.items c.loop-step.seen.keys c.loop-step.order.items c.loop-step.invariant c.in-Reach.next c.head-now.result whole (record { free = c.head-now.ensures.free; same = c.head-now.ensures.same }) c.index-forms-now.result c.head-now.ensures.there q))

pub loop-step-preserved : goal.loop-step-preserved
loop-step-preserved c =
    let whole = c.in-Some.ensures.items ∙ ap (λ t. c.pop.new.self.items ++ t ∷ []) c.in-Reach.is in
    let v = visit_again c.loop-step.seen.keys c.head-now.result.0 c.in_ok-first-in-Reach.first c.visit.new.seen.keys c.in_ok-first-in-Reach.ensures c.if-first.false in
    subst
    (λ (order : List Headed). IsOrdering c.args.forms.now c.args.bound.now c.args.ty.0 c.pop.new.self.items c.visit.new.seen.keys order)
    (sym c.in_ok-push-in-Reach.ensures.items)
    (subst
    (λ (is : List ℕ). IsOrdering c.args.forms.now c.args.bound.now c.args.ty.0 c.pop.new.self.items is (c.loop-step.order.items ++ (record { ty = c.in-Reach.next; head = c.head-now.result }) ∷ []))
    (sym v.1)
    (ordering_again c.args.forms.now c.args.bound.now c.requires.solved c.args.ty.0 c.loop-step.work.items c.pop.new.self.items c.loop-step.seen.keys c.loop-step.order.items c.loop-step.invariant c.in-Reach.next c.head-now.result whole (record { free = c.head-now.ensures.free; same = c.head-now.ensures.same }) v.0))
