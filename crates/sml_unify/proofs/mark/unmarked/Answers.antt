use Rattle.std.proofs.Common.{rules, ◌≡◌, ℕ, List, [], ◌++◌, Some, sym, ap, ◌∙◌, subst}
use Rattle.std.proofs.lemmas.Option.{slice_get-get_or}
use Rattle.sml_types.specs.Forms.{parts_of}
use Rattle.sml_unify.proofs.MarkWalk.{IsMarked, to_mark, marked_var, marked_met, marked_visit, marked_always, never, marked_end}
use Rattle.sml_unify.proofs.Visits.{to_do_first, after_first, after_again}
use Rattle.sml_unify.proofs.mark.unmarked.Goals as goal

pub returns-then-not-v : goal.returns-then-not-v
returns-then-not-v c =
    let q = slice_get-get_or c.args.forms.now c.head-now.result.0 c.index-forms-now.result c.head-now.ensures.there ∙ ap Some (sym c.index-forms-now.is) in
    to_mark c.args.names.now c.args.forms.now c.args.bound.now c.requires.solved c.args.ty.0 c.loop-next.work.items c.pop.new.self.items c.loop-next.seen.keys c.in-Some.next c.head-now.result.0 c.in-Some.ensures.items c.head-now.ensures.same c.loop-next.invariant c.in-Var.v (q ∙ ap Some c.in-Var.is) c.head-now.ensures.free c.if-not-v.true

pub loop-next-preserved-else-not-v : goal.loop-next-preserved-else-not-v
loop-next-preserved-else-not-v c =
    let q = slice_get-get_or c.args.forms.now c.head-now.result.0 c.index-forms-now.result c.head-now.ensures.there ∙ ap Some (sym c.index-forms-now.is) in
    marked_var c.args.names.now c.args.forms.now c.args.bound.now c.requires.solved c.args.ty.0 c.loop-next.work.items c.pop.new.self.items c.loop-next.seen.keys c.in-Some.next c.head-now.result.0 c.in-Some.ensures.items c.head-now.ensures.same c.loop-next.invariant c.in-Var.v (q ∙ ap Some c.in-Var.is) c.head-now.ensures.free c.if-not-v.false

pub returns-in-Never : goal.returns-in-Never
returns-in-Never c =
    let q = slice_get-get_or c.args.forms.now c.head-now.result.0 c.index-forms-now.result c.head-now.ensures.there ∙ ap Some (sym c.index-forms-now.is) in
    never c.args.names.now c.args.forms.now c.args.bound.now c.requires.solved c.args.ty.0 c.loop-next.work.items c.pop.new.self.items c.loop-next.seen.keys c.in-Some.next c.head-now.result.0 c.in-Some.ensures.items c.head-now.ensures.same c.loop-next.invariant c.index-forms-now.result q c.in_default-form.not-Var (sym c.equality.ensures ∙ c.in-Never.is)

pub loop-next-preserved-in-Always : goal.loop-next-preserved-in-Always
loop-next-preserved-in-Always c =
    let q = slice_get-get_or c.args.forms.now c.head-now.result.0 c.index-forms-now.result c.head-now.ensures.there ∙ ap Some (sym c.index-forms-now.is) in
    marked_always c.args.names.now c.args.forms.now c.args.bound.now c.requires.solved c.args.ty.0 c.loop-next.work.items c.pop.new.self.items c.loop-next.seen.keys c.in-Some.next c.head-now.result.0 c.in-Some.ensures.items c.head-now.ensures.same c.loop-next.invariant c.index-forms-now.result q c.in_default-form.not-Var (sym c.equality.ensures ∙ c.in-Always.is)

pub loop-next-smaller-then-branch : goal.loop-next-smaller-then-branch
loop-next-smaller-then-branch c =
    let q = slice_get-get_or c.args.forms.now c.head-now.result.0 c.index-forms-now.result c.head-now.ensures.there ∙ ap Some (sym c.index-forms-now.is) in
    to_do_first c.args.forms.now c.loop-next.seen.keys c.visit.new.seen.keys c.loop-next.work.items c.append.new.self.items c.pop.new.self.items c.in-Some.next c.head-now.result.0 c.index-forms-now.result c.in_ok-visit-in-Parts.field-0 q c.in_ok-visit-in-Parts.ensures c.if-branch.true c.in-Some.ensures.items (c.in_ok-append-in-Parts.ensures.items ∙ ap (λ is. c.pop.new.self.items ++ is) c.in_ok-found-in-Parts.ensures)

pub loop-next-preserved-then-branch : goal.loop-next-preserved-then-branch
loop-next-preserved-then-branch c =
    let q = slice_get-get_or c.args.forms.now c.head-now.result.0 c.index-forms-now.result c.head-now.ensures.there ∙ ap Some (sym c.index-forms-now.is) in
    after_first (λ is os. IsMarked c.args.names.now c.args.forms.now c.args.bound.now c.args.ty.0 is os) c.loop-next.seen.keys c.visit.new.seen.keys c.append.new.self.items c.pop.new.self.items c.head-now.result.0 c.in_ok-visit-in-Parts.field-0 c.in_ok-visit-in-Parts.ensures (parts_of c.index-forms-now.result) c.if-branch.true (c.in_ok-append-in-Parts.ensures.items ∙ ap (λ is. c.pop.new.self.items ++ is) c.in_ok-found-in-Parts.ensures) (marked_visit c.args.names.now c.args.forms.now c.args.bound.now c.requires.solved c.args.ty.0 c.loop-next.work.items c.pop.new.self.items c.loop-next.seen.keys c.in-Some.next c.head-now.result.0 c.in-Some.ensures.items c.head-now.ensures.same c.loop-next.invariant c.index-forms-now.result q c.in_default-form.not-Var (sym c.equality.ensures ∙ c.in-Parts.is) c.head-now.ensures.there)

pub loop-next-preserved : goal.loop-next-preserved
loop-next-preserved c =
    after_again (λ is os. IsMarked c.args.names.now c.args.forms.now c.args.bound.now c.args.ty.0 is os) c.loop-next.seen.keys c.visit.new.seen.keys c.pop.new.self.items c.pop.new.self.items c.head-now.result.0 c.in_ok-visit-in-Parts.field-0 c.in_ok-visit-in-Parts.ensures c.if-branch.false (λ o. marked_met c.args.names.now c.args.forms.now c.args.bound.now c.requires.solved c.args.ty.0 c.loop-next.work.items c.pop.new.self.items c.loop-next.seen.keys c.in-Some.next c.head-now.result.0 c.in-Some.ensures.items c.head-now.ensures.same c.loop-next.invariant o)

pub returns : goal.returns
returns c =
    let empty : c.loop-next.work.items ≡ [] = search rules in
    marked_end c.args.names.now c.args.forms.now c.args.bound.now c.requires.solved c.args.ty.0 c.loop-next.seen.keys (subst (λ (is : List ℕ). IsMarked c.args.names.now c.args.forms.now c.args.bound.now c.args.ty.0 is c.loop-next.seen.keys) empty c.loop-next.invariant)
