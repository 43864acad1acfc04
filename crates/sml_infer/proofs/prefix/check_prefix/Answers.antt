use Rattle.std.proofs.Common.{arith}
use Rattle.sml_infer.proofs.prefix.check_prefix.Goals as goal

pub returns : goal.returns
returns c =
    let good = c.in_ok-good.ensures in
    let most = c.if-count-end.false in
    let end = c.requires in
    record {
      numbered = good.numbered c.if-not-good.false;
      prefix = good.prefix c.if-not-good.false;
      good = record { stand = c.in_ok-check_types.ensures.stand; rows = c.in_ok-check_types.ensures.rows };
      within = omega (arith, most, end);
    }
