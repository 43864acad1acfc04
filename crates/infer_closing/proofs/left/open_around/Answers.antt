use Rattle.std.proofs.Common.{[], List, subst}
use Rattle.sml_types.specs.declared.types.TyVar.{TyVar}
use Rattle.infer_state.specs.Fits.{settled_at}
use Rattle.infer_scopes.specs.Scopes.{AllOpen}
use Rattle.infer_closing.specs.Open.{closed_at}
use Rattle.infer_closing.specs.Closing.{meaning}
use Rattle.infer_closing.specs.Left.{Gets, StandsInOne, AreWaiting}
use Rattle.infer_closing.proofs.LeftFacts.{context_opens}
use Rattle.infer_closing.proofs.left.open_around.Goals as goal

pub returns : goal.returns
returns c d q =
    let s = settled_at c.args.unknowns.now.types c.args.settled.now in
    context_opens
    c.args.bare.now
    s
    d
    (meaning c.args.unknowns.now)
    (AllOpen (closed_at s) c.args.scopes.now)
    (AreWaiting c.args.groups.now)
    c.in_ok-left.left
    c.in_ok-found.found
    (c.in_ok-left.ensures d q)
    (subst (λ (vs : List TyVar). Gets (StandsInOne (meaning c.args.unknowns.now) vs) [] c.in_ok-found.found) c.items.ensures c.in_ok-found.ensures)
