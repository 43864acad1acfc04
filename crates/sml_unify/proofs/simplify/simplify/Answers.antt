use Rattle.std.proofs.Common.{◌≡◌, ◌++◌, List, sym, ap, ◌∙◌, subst}
use Rattle.std.specs.Prelude.{Ok, Err}
use Rattle.sml_unify.specs.declared.pair.Pair.{Pair}
use Rattle.sml_unify.specs.Simplified.{IsSimplified}
use Rattle.sml_unify.specs.Tasks.{pairs_of}
use Rattle.sml_unify.proofs.Runs.{pairs_map}
use Rattle.sml_unify.proofs.RunSteps.{simplified_error}
use Rattle.sml_unify.proofs.simplify.simplify.Goals as goal

pub returns-in-Err : goal.returns-in-Err
returns-in-Err c =
    let first : pairs_of c.in_ok-tasks.tasks.items ≡ c.args.work.now.items = ap pairs_of c.in_ok-tasks.ensures ∙ pairs_map c.deref.result.now ∙ c.deref.ensures.value in
    subst
    (λ (ps : List Pair). IsSimplified c.args.forms.now c.args.bound.now ps c.args.work.now.items (Err c.in-Err.e))
    first
    (simplified_error c.args.forms.now c.args.bound.now (pairs_of c.in_ok-tasks.tasks.items) (pairs_of c.run.new.tasks.items) c.args.work.now.items c.in-Err.e c.in-Err.ensures)

pub returns : goal.returns
returns c =
    let first : pairs_of c.in_ok-tasks.tasks.items ≡ c.args.work.now.items = ap pairs_of c.in_ok-tasks.ensures ∙ pairs_map c.deref.result.now ∙ c.deref.ensures.value in
    let last : c.add_pairs.new.pairs.items ≡ pairs_of c.run.new.tasks.items = c.in_ok-add_pairs.ensures ∙ ap (λ ps. ps ++ pairs_of c.deref-2.result.now) c.new-left.ensures.items ∙ ap pairs_of c.deref-2.ensures.value in
    subst
    (λ (ps : List Pair). IsSimplified c.args.forms.now c.args.bound.now ps c.add_pairs.new.pairs.items (Ok c.in-Ok.found))
    first
    (subst (λ (ps : List Pair). IsSimplified c.args.forms.now c.args.bound.now (pairs_of c.in_ok-tasks.tasks.items) ps (Ok c.in-Ok.found)) (sym last) c.in-Ok.ensures)
