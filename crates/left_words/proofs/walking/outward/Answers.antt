use Rattle.std.proofs.Common.{length}
use Rattle.smlc_base.specs.SiteWords.{around}
use Rattle.left_words.proofs.Sited.{begins, goes_on, ends_here, ends_late}
use Rattle.left_words.proofs.walking.outward.Goals as goal

pub loop-init : goal.loop-init
loop-init c labels r = begins labels c.args.sites.now (length c.args.sites.now) c.args.start

pub loop-preserved : goal.loop-preserved
loop-preserved c labels r =
    goes_on labels c.args.sites.now (length c.args.sites.now) c.loop.counter c.loop.total c.in_ok-total-in-Some.total (around (length c.args.sites.now) labels c.args.sites.now c.args.start) c.loop.at c.in-Some.site c.loop-test.true (c.in-Some.ensures labels r) c.in_ok-total-in-Some.ensures (c.loop.invariant labels r)

pub returns : goal.returns
returns c labels r =
    ends_late labels c.args.sites.now (length c.args.sites.now) c.loop.counter c.loop.total (around (length c.args.sites.now) labels c.args.sites.now c.args.start) c.loop.at c.loop-test.false (c.loop.invariant labels r)

pub returns-in-None : goal.returns-in-None
returns-in-None c labels r =
    ends_here labels c.args.sites.now (length c.args.sites.now) c.loop.counter c.loop.total (around (length c.args.sites.now) labels c.args.sites.now c.args.start) c.loop.at c.loop-test.true (c.in-None.ensures labels r) (c.loop.invariant labels r)
