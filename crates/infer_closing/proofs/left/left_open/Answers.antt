use Rattle.std.proofs.Common.{ℕ, List, ◌∙◌, subst}
use Rattle.infer_state.specs.Fits.{settled_at}
use Rattle.infer_scopes.specs.Scopes.{AllOpen}
use Rattle.infer_closing.specs.Open.{closed_at}
use Rattle.infer_closing.specs.Left.{Gets, IsLeftByOne}
use Rattle.infer_closing.proofs.LeftFacts.{context_leaves}
use Rattle.infer_closing.proofs.left.left_open.Goals as goal

pub returns : goal.returns
returns c d q =
    let s = settled_at c.args.types.now c.args.settled.now in
    context_leaves
    c.args.bare.now
    s
    d
    (AllOpen (closed_at s) c.args.scopes.now)
    c.deref.result.now
    c.in_ok-names.names.items
    c.in_ok-left.left
    c.add_names.new.left
    (c.deref.ensures.value ∙ c.in_ok-tyvars.ensures d q)
    c.in_ok-left.ensures.is
    c.in_ok-left.ensures.there
    (c.in_ok-names.ensures.bound d q)
    (λ h. c.in_ok-names.ensures.all (closed_at s) h d q)
    (subst (λ (xs : List ℕ). Gets (IsLeftByOne c.args.bare.now s d xs) c.in_ok-left.left c.add_names.new.left) c.deref-2.ensures.value (c.in_ok-add_names.ensures d q))
