use Rattle.std.proofs.Common.{◌-◌, ◌≤◌, Some, sym, ap, ◌∙◌, subst, arith}
use Rattle.std.specs.List.{AllByRecursion}
use Rattle.std.proofs.lemmas.Option.{slice_get-get_or}
use Rattle.sml_types.specs.Forms.{parts_of}
use Rattle.infer_parts.specs.Segments.{least_of}
use Rattle.infer_parts.proofs.Lists.{least_low, least_all, one_more}
use Rattle.infer_parts.proofs.segment.first_form.Goals as goal

pub forms-preserved : goal.forms-preserved
forms-preserved c =
    let first = c.forms.first in
    let parts = parts_of c.index-forms-at.result in
    let is = c.least-first.ensures ∙ ap (least_of first) (c.deref.ensures.value ∙ c.in_ok-parts.ensures) in
    let low : c.least-first.result ≤ first = subst (λ n. n ≤ first) (sym is) (least_low first parts) in
    let end = c.forms.invariant.end in
    let below = c.forms-test.true in
    let there = c.requires.there in
    let was = c.forms.invariant.low in
    let here = slice_get-get_or c.args.forms.now (c.forms.at - 1) c.index-forms-at.result (omega arith) ∙ ap Some (sym c.index-forms-at.is) in
    record {
      order = omega arith;
      low = omega arith;
      end = omega arith;
      closed = one_more parts_of c.args.forms.now first c.least-first.result (c.forms.at - 1) c.args.last c.index-forms-at.result here low (subst (λ n. AllByRecursion (λ k. n ≤ k) parts) (sym is) (least_all first parts)) (λ i f lo hi q. c.forms.invariant.closed i f (omega arith) hi q);
    }
