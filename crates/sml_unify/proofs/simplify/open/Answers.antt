use Rattle.std.proofs.Common.{◌≡◌, Some, [], ◌∷◌, ◌++◌, sym, ap, ◌∙◌, append_assoc}
use Rattle.std.proofs.lemmas.Option.{slice_get-get_or}
use Rattle.sml_types.specs.declared.types.TyForm.{TyForm}
use Rattle.sml_types.specs.Forms.{parts_of}
use Rattle.sml_unify.specs.declared.task.Task.TheVariants.{Link}
use Rattle.sml_unify.specs.Tasks.{parts_tasks}
use Rattle.sml_unify.specs.Runs.{IsLike}
use Rattle.std.proofs.Common.{subst}
use Rattle.sml_unify.proofs.simplify.open.Goals as goal

pub returns : goal.returns
returns c a b h =
    let p = slice_get-get_or c.args.forms.now c.args.pair.left.0 c.index-forms-pair.result c.requires.pair.0 ∙ ap Some (sym c.index-forms-pair.is) in
    let q = slice_get-get_or c.args.forms.now c.args.pair.right.0 c.index-forms-pair-2.result c.requires.pair.1 ∙ ap Some (sym c.index-forms-pair-2.is) in
    let x : c.index-forms-pair.result ≡ a = cc (p, h.left) in
    let y : c.index-forms-pair-2.result ≡ b = cc (q, h.right) in
    let d = c.same_head.ensures.0 c.if-not-same_head.false in (
      subst (λ (f : TyForm). IsLike f b) x (subst (λ (g : TyForm). IsLike c.index-forms-pair.result g) y d),
      c.in_ok-add_parts.ensures
          ∙ ap (λ ts. ts ++ parts_tasks c.deref.result.now c.deref-2.result.now) c.in_ok-push.ensures.items
          ∙ append_assoc c.args.tasks.now.items (Link c.args.pair ∷ []) (parts_tasks c.deref.result.now c.deref-2.result.now)
          ∙ ap (λ xs. c.args.tasks.now.items ++ Link c.args.pair ∷ parts_tasks xs c.deref-2.result.now) (c.deref.ensures.value ∙ c.in_ok-xs.ensures ∙ ap parts_of x)
          ∙ ap (λ ys. c.args.tasks.now.items ++ Link c.args.pair ∷ parts_tasks (parts_of a) ys) (c.deref-2.ensures.value ∙ c.in_ok-ys.ensures ∙ ap parts_of y),
    )
