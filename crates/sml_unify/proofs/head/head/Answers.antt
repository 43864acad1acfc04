use Rattle.std.proofs.Common.{Some, refl, sym, ap, ◌∙◌}
use Rattle.std.proofs.lemmas.Option.{slice_get-get_or}
use Rattle.sml_unify.proofs.Heads.{low_first, low_step, same_step, free_here, free_else}
use Rattle.sml_unify.proofs.head.head.Goals as goal

pub loop-init : goal.loop-init
loop-init c = record { there = c.requires.here; same = λ f h. refl; low = low_first c.args.forms.now c.args.bound.now c.args.ty.0 c.requires.solved }

pub returns-in-None-clause-free : goal.returns-in-None-clause-free
returns-in-None-clause-free c =
    let p = slice_get-get_or c.args.forms.now c.loop.now.0 c.index-forms-now.result c.loop.invariant.there ∙ ap Some (sym c.index-forms-now.is) in
    free_here c.args.forms.now c.args.bound.now c.loop.now.0 c.in-Var.v (p ∙ ap Some c.in-Var.is) (sym c.look.ensures ∙ c.in-None.is)

pub returns-in_default : goal.returns-in_default
returns-in_default c =
    let p = slice_get-get_or c.args.forms.now c.loop.now.0 c.index-forms-now.result c.loop.invariant.there ∙ ap Some (sym c.index-forms-now.is) in
    record {
      there = c.loop.invariant.there;
      free = free_else c.args.forms.now c.args.bound.now c.loop.now.0 _ p c.in_default.not-Var;
      same = c.loop.invariant.same;
    }

pub loop-preserved : goal.loop-preserved
loop-preserved c =
    let p = slice_get-get_or c.args.forms.now c.loop.now.0 c.index-forms-now.result c.loop.invariant.there ∙ ap Some (sym c.index-forms-now.is) in
    let q = p ∙ ap Some c.in-Var.is in
    let e = sym c.look.ensures ∙ c.in-Some.is in
    record {
      there = c.requires.solved.within c.in-Var.v.num c.in-Some.next e;
      same = same_step c.args.forms.now c.args.bound.now c.args.ty.0 c.loop.now.0 c.in-Var.v c.in-Some.next c.requires.solved c.loop.invariant.same q e;
      low = low_step c.args.forms.now c.args.bound.now c.loop.now.0 c.loop.counter c.in-Var.v c.in-Some.next c.requires.solved q e c.loop.invariant.low;
    }
