use Rattle.std.proofs.Common.{length, ap, ◌∙◌}
use Rattle.infer_parts.specs.Written.{put_in}
use Rattle.infer_parts.proofs.Placed.{length-in_order}
use Rattle.infer_parts.proofs.written.placed.Goals as goal

pub fields-init : goal.fields-init
fields-init c =
    record {
      count = ap length c.in_ok-made.ensures ∙ length-in_order c.args.fields.now c.args.tys.now c.requires.count;
      left = ap (put_in c.args.fields.now c.args.tys.now) c.in_ok-made.ensures;
    }
