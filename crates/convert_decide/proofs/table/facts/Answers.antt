use Rattle.std.proofs.Common.{◌≡◌, ◌-◌, ◌<◌, suc, Some, length, sym, ap, ◌∙◌, arith, subst}
use Rattle.std.proofs.lemmas.Option.{slice_get-get_or}
use Rattle.convert_decide.specs.Table.{AreFactsFrom, fact_in, fact_by}
use Rattle.convert_decide.proofs.Down.{facts_down}
use Rattle.convert_decide.proofs.table.facts.Goals as goal

pub loop-at-preserved : goal.loop-at-preserved
loop-at-preserved c =
    let lt : c.loop-at.at - 1 < length c.args.terms.now = omega (arith, c.loop-at.invariant.within) in
    let here : suc (c.loop-at.at - 1) ≡ c.loop-at.at = omega arith in
    record {
      within = omega arith;
      done =
          subst
          (AreFactsFrom c.args.terms.now (c.loop-at.at - 1))
          (sym c.set.ensures)
          (facts_down c.args.terms.now c.requires (c.loop-at.at - 1) c.index-terms-at.result (slice_get-get_or _ _ c.index-terms-at.result lt ∙ ap Some (sym c.index-terms-at.is)) c.loop-at.found (subst (λ k. AreFactsFrom c.args.terms.now k c.loop-at.found) (sym here) c.loop-at.invariant.done) c.in_ok-fact.fact (c.in_ok-fact.ensures ∙ ap (λ r. fact_by (fact_in r) c.index-terms-at.result) c.items.ensures));
    }
