use Rattle.std.proofs.Common.{rules, refl, ◌≡◌, ℕ, List, [], ◌++◌, Some, sym, ap, ◌∙◌, subst}
use Rattle.std.proofs.lemmas.Option.{slice_get-get_or}
use Rattle.sml_types.specs.Forms.{parts_of}
use Rattle.sml_unify.proofs.VariableWalk.{IsCollected, collect_here, collect_new, collect_known, collect_met, collect_visit, collect_end}
use Rattle.sml_unify.proofs.Visits.{to_do_first, after_first, after_again, visit_first, visit_again}
use Rattle.sml_unify.proofs.variables.found_in.Goals as goal

pub head-now-requires-clause-here : goal.head-now-requires-clause-here
head-now-requires-clause-here c =
    collect_here c.args.forms.now c.args.bound.now c.requires.solved c.args.ty.0 c.loop-next.work.items c.pop.new.self.items c.loop-next.seen.keys c.loop-next.numbers.keys c.loop-next.found.items c.in-Some.next c.in-Some.next c.in-Some.ensures.items (λ f h. refl) c.loop-next.invariant

pub loop-next-preserved-in-Continue-branch-3 : goal.loop-next-preserved-in-Continue-branch-3
loop-next-preserved-in-Continue-branch-3 c =
    let q = slice_get-get_or c.args.forms.now c.head-now.result.0 c.index-forms-now.result c.head-now.ensures.there ∙ ap Some (sym c.index-forms-now.is) in
    collect_new c.args.forms.now c.args.bound.now c.requires.solved c.args.ty.0 c.loop-next.work.items c.pop.new.self.items c.loop-next.seen.keys c.loop-next.numbers.keys c.loop-next.found.items c.in-Some.next c.head-now.result.0 c.in-Some.ensures.items c.head-now.ensures.same c.loop-next.invariant c.in-Var.v c.visit.new.seen.keys c.push-then-new.new.self.items (q ∙ ap Some c.in-Var.is) c.head-now.ensures.free (visit_first c.loop-next.numbers.keys c.in-Var.v.num c.in_ok-new-in-Var.new c.visit.new.seen.keys c.in_ok-new-in-Var.ensures c.if-new.true) c.in_ok-push-in-Var.ensures.items

pub loop-next-preserved-else-new : goal.loop-next-preserved-else-new
loop-next-preserved-else-new c =
    let q = slice_get-get_or c.args.forms.now c.head-now.result.0 c.index-forms-now.result c.head-now.ensures.there ∙ ap Some (sym c.index-forms-now.is) in
    collect_known c.args.forms.now c.args.bound.now c.requires.solved c.args.ty.0 c.loop-next.work.items c.pop.new.self.items c.loop-next.seen.keys c.loop-next.numbers.keys c.loop-next.found.items c.in-Some.next c.head-now.result.0 c.in-Some.ensures.items c.head-now.ensures.same c.loop-next.invariant c.in-Var.v c.visit.new.seen.keys (q ∙ ap Some c.in-Var.is) c.head-now.ensures.free (visit_again c.loop-next.numbers.keys c.in-Var.v.num c.in_ok-new-in-Var.new c.visit.new.seen.keys c.in_ok-new-in-Var.ensures c.if-new.false)

pub loop-next-smaller-then-first : goal.loop-next-smaller-then-first
loop-next-smaller-then-first c =
    let q = slice_get-get_or c.args.forms.now c.head-now.result.0 c.index-forms-now.result c.head-now.ensures.there ∙ ap Some (sym c.index-forms-now.is) in
    to_do_first c.args.forms.now c.loop-next.seen.keys c.visit-in_default-form.new.seen.keys c.loop-next.work.items c.append.new.self.items c.pop.new.self.items c.in-Some.next c.head-now.result.0 c.index-forms-now.result c.in_ok-first-in_default-form.first q c.in_ok-first-in_default-form.ensures c.if-first.true c.in-Some.ensures.items (c.in_ok-append-in_default-form.ensures.items ∙ ap (λ is. c.pop.new.self.items ++ is) c.in_ok-inner-in_default-form.ensures)

pub loop-next-preserved-then-first : goal.loop-next-preserved-then-first
loop-next-preserved-then-first c =
    let q = slice_get-get_or c.args.forms.now c.head-now.result.0 c.index-forms-now.result c.head-now.ensures.there ∙ ap Some (sym c.index-forms-now.is) in
    after_first (λ is os. IsCollected c.args.forms.now c.args.bound.now c.args.ty.0 is os c.loop-next.numbers.keys c.loop-next.found.items) c.loop-next.seen.keys c.visit-in_default-form.new.seen.keys c.append.new.self.items c.pop.new.self.items c.head-now.result.0 c.in_ok-first-in_default-form.first c.in_ok-first-in_default-form.ensures (parts_of c.index-forms-now.result) c.if-first.true (c.in_ok-append-in_default-form.ensures.items ∙ ap (λ is. c.pop.new.self.items ++ is) c.in_ok-inner-in_default-form.ensures) (collect_visit c.args.forms.now c.args.bound.now c.requires.solved c.args.ty.0 c.loop-next.work.items c.pop.new.self.items c.loop-next.seen.keys c.loop-next.numbers.keys c.loop-next.found.items c.in-Some.next c.head-now.result.0 c.in-Some.ensures.items c.head-now.ensures.same c.loop-next.invariant c.index-forms-now.result c.head-now.ensures.there q c.in_default-form.not-Var)

pub loop-next-preserved : goal.loop-next-preserved
loop-next-preserved c =
    after_again (λ is os. IsCollected c.args.forms.now c.args.bound.now c.args.ty.0 is os c.loop-next.numbers.keys c.loop-next.found.items) c.loop-next.seen.keys c.visit-in_default-form.new.seen.keys c.pop.new.self.items c.pop.new.self.items c.head-now.result.0 c.in_ok-first-in_default-form.first c.in_ok-first-in_default-form.ensures c.if-first.false (λ o. collect_met c.args.forms.now c.args.bound.now c.requires.solved c.args.ty.0 c.loop-next.work.items c.pop.new.self.items c.loop-next.seen.keys c.loop-next.numbers.keys c.loop-next.found.items c.in-Some.next c.head-now.result.0 c.in-Some.ensures.items c.head-now.ensures.same c.loop-next.invariant o)

pub returns : goal.returns
returns c =
    let empty : c.loop-next.work.items ≡ [] = search rules in
    collect_end c.args.forms.now c.args.bound.now c.requires.solved c.args.ty.0 c.loop-next.seen.keys c.loop-next.numbers.keys c.loop-next.found.items (subst (λ (is : List ℕ). IsCollected c.args.forms.now c.args.bound.now c.args.ty.0 is c.loop-next.seen.keys c.loop-next.numbers.keys c.loop-next.found.items) empty c.loop-next.invariant)
