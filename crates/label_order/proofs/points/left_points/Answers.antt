use Rattle.std.proofs.Common.{◌≡◌, ◌++◌, cond, [], ◌∷◌, refl, sym, ap, ◌∙◌}
use Rattle.std.proofs.lemmas.Result.{IfOk-weaker}
use Rattle.sml_def.specs.Run.{eq_point}
use Rattle.cps_ir.specs.Program.{code_at}
use Rattle.close_laws.specs.Layouts.{facts}
use Rattle.close_laws.specs.Close.{compares, left_points}
use Rattle.label_order.specs.Order.{by_label_in, points_in}
use Rattle.label_order.proofs.Labelled.{labelled_in_order}
use Rattle.label_order.proofs.points.left_points.Goals as goal

pub returns : goal.returns
returns c =
    let code = code_at c.args.program.now.bodies 0 in
    IfOk-weaker c.with_comparison.result (λ v. v.items ≡ c.in_ok-points.points.items ++ cond c.in_ok-has_comparison.field-0 (eq_point ∷ []) []) (λ v. v.items ≡ left_points (facts c.args.program.now.variables code) code)
    (λ v e.
    e ∙ ap (λ b. c.in_ok-points.points.items ++ cond b (eq_point ∷ []) []) c.in_ok-has_comparison.ensures
    ∙ ap (λ ps. ps ++ cond (compares code) (eq_point ∷ []) []) (c.in_ok-points.ensures ∙ ap (λ ls. points_in (by_label_in ls ls)) c.requires.functions ∙ sym (labelled_in_order (facts c.args.program.now.variables code) code refl)))
    c.with_comparison.ensures
