use Rattle.std.proofs.Common.{◌<◌, length, nat_eq, sym, ap, ◌∙◌, subst}
use Rattle.std.specs.List.{AllByRecursion, find}
use Rattle.sml_types.specs.Tree.{inst}
use Rattle.sml_types.specs.Forms.{tree, form_tree, parts_of}
use Rattle.infer_parts.specs.Copies.{given_types}
use Rattle.infer_parts.proofs.CopySteps.{given_there, found_there, parts_there, not_var, form_copied, pushed, pushed_vars, pushed_means, some_eq}
use Rattle.infer_parts.proofs.copy.copy_form.Goals as goal

pub returns-in-Some-clause-ok : goal.returns-in-Some-clause-ok
returns-in-Some-clause-ok c =
    let o = find (λ g. nat_eq g.num c.in-Var.var.num) c.args.given.now in
    let r = given_there c.args.types.now c.args.given.now c.in-Var.var c.in-Some.ty o (λ g e. found_there (λ x. x.ty.0 < length c.args.types.now) (λ x. nat_eq x.num c.in-Var.var.num) c.args.given.now g c.requires.given e) (sym c.in-Some.is ∙ c.find_given.ensures) in
    let m = c.form.ensures.means ∙ ap (form_tree (tree c.args.types.now)) c.in-Var.is in
    (r.0, r.1 ∙ sym (ap (inst (given_types c.args.types.now c.args.given.now)) m))

pub push-requires : goal.push-requires
push-requires c =
    let made = c.in_ok-form.ensures in
    let same = some_eq c.form.result.now c.form-2.result.now (sym c.form.ensures.here ∙ c.form-2.ensures.here) in
    let parts = c.requires.parts c.form-2.result.now c.form-2.ensures.here in
    record {
      parts = subst (λ f. AllByRecursion (λ k. k < length c.args.types.now) (parts_of f)) (sym made) (parts_there c.args.types.now c.args.given.now c.args.from c.args.copies.now c.form-2.result.now parts);
      named = λ i v w e q m. absurd (not_var c.args.from c.args.copies.now c.form-2.result.now w (λ u p. c.in_default.not-Var u (same ∙ p)) (sym made ∙ q));
    }

pub returns : goal.returns
returns c =
    let made = c.in_ok-form.ensures in
    let same = some_eq c.form.result.now c.form-2.result.now (sym c.form.ensures.here ∙ c.form-2.ensures.here) in
    let parts = c.requires.parts c.form-2.result.now c.form-2.ensures.here in
    let copied = form_copied c.args.types.now c.args.given.now c.args.from c.args.copies.now c.form-2.result.now (λ u p. c.in_default.not-Var u (same ∙ p)) parts in
    let means = ap (form_tree (tree c.args.types.now)) made ∙ copied ∙ ap (inst (given_types c.args.types.now c.args.given.now)) (sym c.form-2.ensures.means) in
    record {
      ok = pushed_means c.args.types.now c.push.new.self c.in_ok-form.form (inst (given_types c.args.types.now c.args.given.now) (tree c.args.types.now c.args.at)) c.push.result c.push.ensures.ok c.push.ensures.means means;
      longer = pushed c.args.types.now c.push.new.self c.in_ok-form.form c.push.result c.push.ensures.ok c.push.ensures.err;
      vars = pushed_vars c.args.types.now c.push.new.self c.in_ok-form.form c.push.result (λ w q. not_var c.args.from c.args.copies.now c.form-2.result.now w (λ u p. c.in_default.not-Var u (same ∙ p)) (sym made ∙ q)) c.push.ensures.ok c.push.ensures.err;
    }
