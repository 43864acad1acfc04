use Rattle.std.proofs.Common.{rules, refl, ◌≡◌, ℕ, List, [], ◌++◌, Some, sym, ap, ◌∙◌, subst}
use Rattle.std.proofs.lemmas.Option.{slice_get-get_or}
use Rattle.sml_types.specs.Forms.{parts_of}
use Rattle.sml_unify.proofs.NameWalk.{IsNaming, naming_here, naming_var, naming_met, naming_visit, naming_end}
use Rattle.sml_unify.proofs.Visits.{to_do_first, after_first, after_again}
use Rattle.sml_unify.proofs.type_names.names_in.Goals as goal

pub head-now-requires-clause-here : goal.head-now-requires-clause-here
head-now-requires-clause-here c =
    naming_here c.args.forms.now c.args.bound.now c.requires.solved c.args.ty.0 c.loop-next.work.items c.pop.new.self.items c.loop-next.seen.keys c.loop-next.names.keys c.in-Some.next c.in-Some.next c.in-Some.ensures.items (λ f h. refl) c.loop-next.invariant

pub loop-next-smaller-then-first : goal.loop-next-smaller-then-first
loop-next-smaller-then-first c =
    let q = slice_get-get_or c.args.forms.now c.head-now.result.0 c.index-forms-now.result c.head-now.ensures.there ∙ ap Some (sym c.index-forms-now.is) in
    to_do_first c.args.forms.now c.loop-next.seen.keys c.visit.new.seen.keys c.loop-next.work.items c.append.new.self.items c.pop.new.self.items c.in-Some.next c.head-now.result.0 c.index-forms-now.result c.in_ok-first-in_default-form.first q c.in_ok-first-in_default-form.ensures c.if-first.true c.in-Some.ensures.items (c.in_ok-append-in_default-form.ensures.items ∙ ap (λ is. c.pop.new.self.items ++ is) c.in_ok-inner-in_default-form.ensures)

pub loop-next-preserved-then-first : goal.loop-next-preserved-then-first
loop-next-preserved-then-first c =
    let q = slice_get-get_or c.args.forms.now c.head-now.result.0 c.index-forms-now.result c.head-now.ensures.there ∙ ap Some (sym c.index-forms-now.is) in
    after_first (λ is os. IsNaming c.args.forms.now c.args.bound.now c.args.ty.0 is os c.note.new.names.keys) c.loop-next.seen.keys c.visit.new.seen.keys c.append.new.self.items c.pop.new.self.items c.head-now.result.0 c.in_ok-first-in_default-form.first c.in_ok-first-in_default-form.ensures (parts_of c.index-forms-now.result) c.if-first.true (c.in_ok-append-in_default-form.ensures.items ∙ ap (λ is. c.pop.new.self.items ++ is) c.in_ok-inner-in_default-form.ensures) (naming_visit c.args.forms.now c.args.bound.now c.requires.solved c.args.ty.0 c.loop-next.work.items c.pop.new.self.items c.loop-next.seen.keys c.loop-next.names.keys c.in-Some.next c.head-now.result.0 c.in-Some.ensures.items c.head-now.ensures.same c.loop-next.invariant c.index-forms-now.result c.note.new.names.keys c.head-now.ensures.there q c.in_default-form.not-Var c.in_ok-note-in_default-form.ensures)

pub returns : goal.returns
returns c =
    let empty : c.loop-next.work.items ≡ [] = search rules in
    naming_end c.args.forms.now c.args.bound.now c.requires.solved c.args.ty.0 c.loop-next.seen.keys c.loop-next.names.keys (subst (λ (is : List ℕ). IsNaming c.args.forms.now c.args.bound.now c.args.ty.0 is c.loop-next.seen.keys c.loop-next.names.keys) empty c.loop-next.invariant)

pub loop-next-preserved-in-Var : goal.loop-next-preserved-in-Var
loop-next-preserved-in-Var c =
    let q = slice_get-get_or c.args.forms.now c.head-now.result.0 c.index-forms-now.result c.head-now.ensures.there ∙ ap Some (sym c.index-forms-now.is) in
    naming_var c.args.forms.now c.args.bound.now c.requires.solved c.args.ty.0 c.loop-next.work.items c.pop.new.self.items c.loop-next.seen.keys c.loop-next.names.keys c.in-Some.next c.head-now.result.0 c.in-Some.ensures.items c.head-now.ensures.same c.loop-next.invariant c.in-Var.field-0 (q ∙ ap Some c.in-Var.is) c.head-now.ensures.free

pub loop-next-preserved : goal.loop-next-preserved
loop-next-preserved c =
    after_again (λ is os. IsNaming c.args.forms.now c.args.bound.now c.args.ty.0 is os c.loop-next.names.keys) c.loop-next.seen.keys c.visit.new.seen.keys c.pop.new.self.items c.pop.new.self.items c.head-now.result.0 c.in_ok-first-in_default-form.first c.in_ok-first-in_default-form.ensures c.if-first.false (λ o. naming_met c.args.forms.now c.args.bound.now c.requires.solved c.args.ty.0 c.loop-next.work.items c.pop.new.self.items c.loop-next.seen.keys c.loop-next.names.keys c.in-Some.next c.head-now.result.0 c.in-Some.ensures.items c.head-now.ensures.same c.loop-next.invariant o)
