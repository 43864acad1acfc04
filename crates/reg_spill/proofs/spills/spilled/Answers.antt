use Rattle.std.proofs.Common.{◌≡◌, ◌-◌, ◌<◌, ◌∙◌, suc, Some, length, length-set, ap, sym, subst, arith}
use Rattle.std.proofs.lemmas.Option.{slice_get-get_or}
use Rattle.place_bodies.specs.Steps.{at_of}
use Rattle.reg_spill.specs.Spills.{body_spills}
use Rattle.reg_spill.proofs.Spilling.{AreSpilled, none_spilled, spilled_down}
use Rattle.reg_spill.proofs.spills.spilled.Goals as goal

pub loop-i-init : goal.loop-i-init
loop-i-init c = record {
  within = omega arith;
  len = c.in_ok-table.ensures;
  done = none_spilled c.args.bodies.now c.in_ok-table.table.items c.in_ok-table.ensures;
}

pub loop-i-preserved : goal.loop-i-preserved
loop-i-preserved c =
    let bodies = c.args.bodies.now in
    let b = c.index-bodies-i.result in
    let table = c.loop-i.table.items in
    let lt : c.loop-i.i - 1 < length bodies = omega (arith, c.loop-i.invariant.within) in
    let here : suc (c.loop-i.i - 1) ≡ c.loop-i.i = omega arith in
    record {
      within = omega (arith, c.loop-i.invariant.within);
      len = length-set table (c.loop-i.i - 1) c.in_ok-words.words ∙ c.loop-i.invariant.len;
      done =
          spilled_down bodies c.requires (c.loop-i.i - 1) b table c.in_ok-words.words (slice_get-get_or _ _ b lt ∙ ap Some (sym c.index-bodies-i.is)) (subst (λ n. c.loop-i.i - 1 < n) (sym c.loop-i.invariant.len) lt) (subst (λ k. AreSpilled bodies k table) (sym here) c.loop-i.invariant.done)
          (c.in_ok-words.ensures ∙ ap (λ t. body_spills (at_of t) b) c.as_slice.ensures.value);
    }

pub returns : goal.returns
returns c k =
    let z = c.loop-i-test.false in
    c.loop-i.invariant.done k (omega arith)
