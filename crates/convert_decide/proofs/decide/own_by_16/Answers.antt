use Rattle.std.proofs.Common.{sym, subst}
use Rattle.convert_decide.specs.Decide.{AreTaken, AreRets}
use Rattle.convert_decide.proofs.Begun.{begun}
use Rattle.convert_decide.proofs.decide.own_by_16.Goals as goal

pub returns : goal.returns
returns c =
    let terms = c.args.terms.now in
    let taken = subst (AreTaken terms 0) (sym c.items.ensures) c.in_ok-taken.ensures in
    let rets = subst (AreRets c.args.sites.now) (sym c.items-2.ensures) c.in_ok-rets.ensures in
    (c.in_ok-decide_all.ensures terms c.requires.facts taken rets (begun terms c.args.facts.now c.requires.facts c.in_ok-own.own c.in_ok-own.ensures c.in_ok-pending.pending c.in_ok-pending.ensures.all)).own_at
