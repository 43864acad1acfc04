use Rattle.std.proofs.Common.{◌++◌, take, ◌∙◌}
use Rattle.smlc_edge.proofs.Gained.{gains_more}
use Rattle.smlc_jobs.proofs.Written.{part_written}
use Rattle.smlc_jobs.proofs.write.write_whole.Goals as goal

pub loop-rest-preserved : goal.loop-rest-preserved
loop-rest-preserved g c =
    let f = c.loop-rest.invariant.so_far in
    let n = c.in_ok-count.count in
    let t = g.S.Sink.taken in
    record {
      so_far = (
        f.0 ++ take n c.loop-rest.rest.now,
        part_written f.0 c.loop-rest.rest.now c.args.bytes.now n f.1,
        gains_more (t c.args.sink.now) (t c.loop-rest.sink) (t c.put.new.self) f.0 (take n c.loop-rest.rest.now) f.2 c.in_ok-count.ensures.told,
      );
      same = c.in_ok-count.ensures.cause ∙ c.loop-rest.invariant.same;
      sure = λ h. (c.in_ok-count.ensures.surely (c.loop-rest.invariant.sure h)).1;
    }
