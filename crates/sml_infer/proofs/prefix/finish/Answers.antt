use Rattle.std.proofs.Common.{List, Option, length, sym, subst}
use Rattle.infer_state.specs.declared.settled.Settled.{Settled}
use Rattle.infer_state.specs.Fits.{AreThere, AreBodies, settled_at}
use Rattle.infer_scopes.specs.Scopes.{AllOpen}
use Rattle.infer_closing.specs.Open.{closed_at}
use Rattle.sml_infer.specs.Going.{now}
use Rattle.sml_infer.proofs.Results.{if_ok}
use Rattle.sml_infer.proofs.PrefixFacts.{refused_as, unchecked_none, checked_as}
use Rattle.sml_infer.proofs.prefix.finish.Goals as goal

pub check-requires-clause-there : goal.check-requires-clause-there
check-requires-clause-there c = subst (λ (settled : List (Option Settled)). AreThere c.args.work.now.unknowns.types settled) (sym c.deref.ensures.value) c.requires.going.sound.there

pub check-requires-clause-bodies : goal.check-requires-clause-bodies
check-requires-clause-bodies c =
    let s = c.args.work.now.unknowns in
    subst (λ (settled : List (Option Settled)). AreBodies c.args.bare.now s (settled_at s.types settled)) (sym c.deref.ensures.value) c.requires.going.sound.bodies

pub check-requires-clause-closed : goal.check-requires-clause-closed
check-requires-clause-closed c =
    let s = c.args.work.now.unknowns in
    subst (λ (settled : List (Option Settled)). AllOpen (closed_at (settled_at s.types settled)) c.args.work.now.scopes) (sym c.deref.ensures.value) c.requires.going.sound.closed

pub returns-clause-checked : goal.returns-clause-checked
returns-clause-checked c =
    let w = c.args.work.now in
    if_ok _ _ c.check.result c.check.ensures.checked (λ renames h.
    checked_as c.args.bare.now w.count c.args.declared.now (now w) c.deref.result.now c.deref-2.result.now w.general.items renames.items c.deref.ensures.value c.deref-2.ensures.value h)

pub returns-clause-refused : goal.returns-clause-refused
returns-clause-refused c =
    let w = c.args.work.now in
    refused_as _ _ c.check.result
    (unchecked_none c.args.bare.now w.count c.args.declared.now (now w) c.deref.result.now c.deref-2.result.now (length c.args.bare.now.nodes) c.deref.ensures.value c.requires.numbered c.requires.prefix c.requires.going)
    c.check.ensures.refused
