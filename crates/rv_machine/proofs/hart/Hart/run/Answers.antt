use Rattle.std.proofs.Common.{[], ◌++◌, refl, ◌∙◌, arith}
use Rattle.smlc_edge.proofs.Gained.{gains_none, gains_more}
use Rattle.rv_machine.specs.Run.{counted_of}
use Rattle.rv_machine.specs.View.{state}
use Rattle.rv_machine.proofs.Behaviour.{Ran-none, counted_of-le, counted_of-fewer}
use Rattle.rv_machine.proofs.hart.Hart.run.Goals as goal

pub loop-init : goal.loop-init
loop-init g c = record {
  so_far = ([], [], Ran-none (state c.args.self.now) (g.I.Source.left c.args.input.now), gains_none _, gains_none _);
  input_same = refl;
  out_same = refl;
  err_same = refl;
  input_sure = λ h. h;
  out_sure = λ h. h;
  err_sure = λ h. h;
}

pub returns-in-Some-clause-runs : goal.returns-in-Some-clause-runs
returns-in-Some-clause-runs g c =
    let w = c.in-Some.ensures.turns in
    let f = c.loop.invariant.so_far in
    let r = w.goes_on c.loop.counter (state c.args.self.now) (g.I.Source.left c.args.input.now) f.0 f.1 f.2 in
    record {
      count = counted_of c.in-Some.end c.loop.counter;
      within = counted_of-le c.in-Some.end c.loop.counter c.args.steps (omega arith);
      all = λ k. absurd (c.in-Some.ensures.ended k);
      fewer = counted_of-fewer c.in-Some.end c.loop.counter c.args.steps (omega arith);
      reached = r.0;
      wrote = f.0 ++ w.wrote;
      wrote_err = f.1 ++ w.wrote_err;
      ran = r.1;
      stands = r.2;
      asked = r.3;
      gains = gains_more (g.O.Sink.taken c.args.out.now) (g.O.Sink.taken c.loop.out) (g.O.Sink.taken c.turn.new.out) f.0 w.wrote f.3 w.gains;
      gains_err = gains_more (g.E.Sink.taken c.args.err.now) (g.E.Sink.taken c.loop.err) (g.E.Sink.taken c.turn.new.err) f.1 w.wrote_err f.4 w.gains_err;
    }

pub loop-preserved : goal.loop-preserved
loop-preserved g c =
    let w = c.in_default.ensures.turns in
    let f = c.loop.invariant.so_far in
    let r = w.goes_on c.loop.counter (state c.args.self.now) (g.I.Source.left c.args.input.now) f.0 f.1 f.2 in
    record {
      so_far = (
        f.0 ++ w.wrote,
        f.1 ++ w.wrote_err,
        rw r.2 r.1,
        gains_more (g.O.Sink.taken c.args.out.now) (g.O.Sink.taken c.loop.out) (g.O.Sink.taken c.turn.new.out) f.0 w.wrote f.3 w.gains,
        gains_more (g.E.Sink.taken c.args.err.now) (g.E.Sink.taken c.loop.err) (g.E.Sink.taken c.turn.new.err) f.1 w.wrote_err f.4 w.gains_err,
      );
      input_same = c.in_default.ensures.counts.0 ∙ c.loop.invariant.input_same;
      out_same = c.in_default.ensures.counts.1 ∙ c.loop.invariant.out_same;
      err_same = c.in_default.ensures.counts.2 ∙ c.loop.invariant.err_same;
      input_sure = λ h. (c.in_default.ensures.input_sure (c.loop.invariant.input_sure h)).1;
      out_sure = λ h. c.in_default.ensures.out_sure (c.loop.invariant.out_sure h);
      err_sure = λ h. c.in_default.ensures.err_sure (c.loop.invariant.err_sure h);
    }
