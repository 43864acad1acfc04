use Rattle.std.proofs.Common.{rules, ◌≡◌, ℕ, List, [], ◌++◌, Some, sym, ap, ◌∙◌, subst}
use Rattle.std.proofs.lemmas.Option.{slice_get-get_or}
use Rattle.sml_types.specs.Forms.{parts_of}
use Rattle.sml_unify.proofs.OccursWalk.{IsSearch, search_hit, search_var, search_met, search_visit, search_end}
use Rattle.sml_unify.proofs.Visits.{to_do_first, after_first, after_again}
use Rattle.sml_unify.proofs.occurs.stands_in.Goals as goal

pub returns-then-v-num : goal.returns-then-v-num
returns-then-v-num c =
    let q = slice_get-get_or c.args.forms.now c.head-now.result.0 c.index-forms-now.result c.head-now.ensures.there ∙ ap Some (sym c.index-forms-now.is) in
    sym (search_hit c.args.forms.now c.args.bound.now c.args.num c.requires.solved c.args.ty.0 c.loop-next.work.items c.pop.new.self.items c.loop-next.seen.keys c.in-Some.next c.head-now.result.0 c.in-Some.ensures.items c.head-now.ensures.same c.loop-next.invariant c.in-Var.v (q ∙ ap Some c.in-Var.is) c.head-now.ensures.free c.if-v-num.true)

pub loop-next-preserved-else-v-num : goal.loop-next-preserved-else-v-num
loop-next-preserved-else-v-num c =
    let q = slice_get-get_or c.args.forms.now c.head-now.result.0 c.index-forms-now.result c.head-now.ensures.there ∙ ap Some (sym c.index-forms-now.is) in
    search_var c.args.forms.now c.args.bound.now c.args.num c.requires.solved c.args.ty.0 c.loop-next.work.items c.pop.new.self.items c.loop-next.seen.keys c.in-Some.next c.head-now.result.0 c.in-Some.ensures.items c.head-now.ensures.same c.loop-next.invariant c.in-Var.v (q ∙ ap Some c.in-Var.is) c.head-now.ensures.free c.if-v-num.false

pub loop-next-smaller-then-branch : goal.loop-next-smaller-then-branch
loop-next-smaller-then-branch c =
    let q = slice_get-get_or c.args.forms.now c.head-now.result.0 c.index-forms-now.result c.head-now.ensures.there ∙ ap Some (sym c.index-forms-now.is) in
    to_do_first c.args.forms.now c.loop-next.seen.keys c.visit.new.seen.keys c.loop-next.work.items c.append.new.self.items c.pop.new.self.items c.in-Some.next c.head-now.result.0 c.index-forms-now.result c.in_ok-visit-in_default-form.field-0 q c.in_ok-visit-in_default-form.ensures c.if-branch.true c.in-Some.ensures.items (c.in_ok-append-in_default-form.ensures.items ∙ ap (λ is. c.pop.new.self.items ++ is) c.in_ok-found-in_default-form.ensures)

pub loop-next-preserved-then-branch : goal.loop-next-preserved-then-branch
loop-next-preserved-then-branch c =
    let q = slice_get-get_or c.args.forms.now c.head-now.result.0 c.index-forms-now.result c.head-now.ensures.there ∙ ap Some (sym c.index-forms-now.is) in
    after_first (λ is os. IsSearch c.args.forms.now c.args.bound.now c.args.num c.args.ty.0 is os) c.loop-next.seen.keys c.visit.new.seen.keys c.append.new.self.items c.pop.new.self.items c.head-now.result.0 c.in_ok-visit-in_default-form.field-0 c.in_ok-visit-in_default-form.ensures (parts_of c.index-forms-now.result) c.if-branch.true (c.in_ok-append-in_default-form.ensures.items ∙ ap (λ is. c.pop.new.self.items ++ is) c.in_ok-found-in_default-form.ensures) (search_visit c.args.forms.now c.args.bound.now c.args.num c.requires.solved c.args.ty.0 c.loop-next.work.items c.pop.new.self.items c.loop-next.seen.keys c.in-Some.next c.head-now.result.0 c.in-Some.ensures.items c.head-now.ensures.same c.loop-next.invariant c.index-forms-now.result c.head-now.ensures.there q c.in_default-form.not-Var)

pub loop-next-preserved : goal.loop-next-preserved
loop-next-preserved c =
    after_again (λ is os. IsSearch c.args.forms.now c.args.bound.now c.args.num c.args.ty.0 is os) c.loop-next.seen.keys c.visit.new.seen.keys c.pop.new.self.items c.pop.new.self.items c.head-now.result.0 c.in_ok-visit-in_default-form.field-0 c.in_ok-visit-in_default-form.ensures c.if-branch.false (λ o. search_met c.args.forms.now c.args.bound.now c.args.num c.requires.solved c.args.ty.0 c.loop-next.work.items c.pop.new.self.items c.loop-next.seen.keys c.in-Some.next c.head-now.result.0 c.in-Some.ensures.items c.head-now.ensures.same c.loop-next.invariant o)

pub returns : goal.returns
returns c =
    let empty : c.loop-next.work.items ≡ [] = search rules in
    sym (search_end c.args.forms.now c.args.bound.now c.args.num c.requires.solved c.args.ty.0 c.loop-next.seen.keys (subst (λ (is : List ℕ). IsSearch c.args.forms.now c.args.bound.now c.args.num c.args.ty.0 is c.loop-next.seen.keys) empty c.loop-next.invariant))
