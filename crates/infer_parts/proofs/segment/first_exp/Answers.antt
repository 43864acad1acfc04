use Rattle.std.proofs.Common.{◌-◌, ◌≤◌, Some, sym, ap, ◌∙◌, subst, arith}
use Rattle.std.specs.List.{AllByRecursion}
use Rattle.std.proofs.lemmas.Option.{slice_get-get_or}
use Rattle.infer_parts.specs.Segments.{exp_parts, least_of}
use Rattle.infer_parts.proofs.Lists.{least_low, least_all, one_more}
use Rattle.infer_parts.proofs.segment.first_exp.Goals as goal

pub exps-preserved : goal.exps-preserved
exps-preserved c =
    let first = c.exps.first in
    let parts = exp_parts c.index-exps-at.result in
    let is = c.least-first.ensures ∙ ap (least_of first) (c.deref.ensures.value ∙ c.in_ok-parts.ensures) in
    let low : c.least-first.result ≤ first = subst (λ n. n ≤ first) (sym is) (least_low first parts) in
    let end = c.exps.invariant.end in
    let below = c.exps-test.true in
    let there = c.requires.there in
    let was = c.exps.invariant.low in
    let here = slice_get-get_or c.args.exps.now (c.exps.at - 1) c.index-exps-at.result (omega arith) ∙ ap Some (sym c.index-exps-at.is) in
    record {
      order = omega arith;
      low = omega arith;
      end = omega arith;
      closed = one_more exp_parts c.args.exps.now first c.least-first.result (c.exps.at - 1) c.args.last c.index-exps-at.result here low (subst (λ n. AllByRecursion (λ k. n ≤ k) parts) (sym is) (least_all first parts)) (λ i f lo hi q. c.exps.invariant.closed i f (omega arith) hi q);
    }
