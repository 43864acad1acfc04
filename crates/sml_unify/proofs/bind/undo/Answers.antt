use Rattle.std.proofs.Common.{take, sym, ap, ◌∙◌, get_or}
use Rattle.sml_unify.specs.Steps.{logged}
use Rattle.sml_unify.proofs.Logs.{undone, unbound_more, unbound_rest, take_more, take_whole}
use Rattle.sml_unify.proofs.bind.undo.Goals as goal

pub loop-num-preserved : goal.loop-num-preserved
loop-num-preserved c =
    let w = take_more c.args.log.now c.loop-num.num-index 0 c.loop-num-test.true in
    record {
      same = c.unbind.ensures.same ∙ c.loop-num.invariant.same;
      reset = λ i k q. unbound_more c.args.bound.now c.loop-num.bound c.unbind.new.bound (take c.loop-num.num-index c.args.log.now) (get_or c.args.log.now c.loop-num.num-index 0) c.loop-num.invariant.same c.unbind.ensures c.loop-num.invariant.reset i k (sym (ap (λ log. logged log i) w) ∙ q);
      rest = λ i k q. unbound_rest c.args.bound.now c.loop-num.bound c.unbind.new.bound (take c.loop-num.num-index c.args.log.now) (get_or c.args.log.now c.loop-num.num-index 0) c.unbind.ensures c.loop-num.invariant.rest i k (sym (ap (λ log. logged log i) w) ∙ q);
    }

pub returns : goal.returns
returns c old n l =
    let w = take_whole c.args.log.now c.loop-num.num-index c.loop-num-test.false in
    c.truncate.ensures
    ∙ ap (λ k. take k c.loop-num.bound) n
    ∙ undone old c.args.bound.now c.loop-num.bound c.args.log.now l c.loop-num.invariant.same (λ i k q. c.loop-num.invariant.reset i k (ap (λ log. logged log i) w ∙ q)) (λ i k q. c.loop-num.invariant.rest i k (ap (λ log. logged log i) w ∙ q))
