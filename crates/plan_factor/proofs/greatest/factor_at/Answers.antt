use Rattle.std.proofs.Common.{◌≡◌}
use Rattle.std.proofs.lemmas.Result.{IfOk-weaker}
use Rattle.close_laws.specs.Plan.{quotient}
use Rattle.plan_factor.specs.Groups.{grouped, frame_rank, site_factor}
use Rattle.plan_factor.proofs.Best.{site_is}
use Rattle.plan_factor.proofs.greatest.factor_at.Goals as goal

pub returns : goal.returns
returns c labels r =
    IfOk-weaker c.quotient.result (λ n. n ≡ quotient c.in_ok-closed.closed c.in_ok-source.source) (λ n. n ≡ site_factor labels c.args.sites.now c.args.classes.now c.args.layouts.now (grouped c.args.groups.now (frame_rank c.args.point)) c.args.point)
    (λ n e.
    site_is labels c.args.sites.now c.args.classes.now c.args.layouts.now (grouped c.args.groups.now) c.args.point c.frame.result c.frame_rank.result c.in_ok-closed.closed c.in_ok-source.source n c.group.result.now e c.in_ok-closed.ensures c.group.ensures c.frame_rank.ensures (c.in_ok-source.ensures labels r) c.frame.ensures)
    c.quotient.ensures
