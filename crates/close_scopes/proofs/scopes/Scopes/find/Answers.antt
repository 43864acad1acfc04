use Rattle.std.proofs.Common.{◌≡◌, sym, ◌∙◌}
use Rattle.std.proofs.lemmas.Bool.{ne_eqb}
use Rattle.close_scopes.proofs.Chains.{looks_outwards}
use Rattle.close_scopes.proofs.scopes.Scopes.find.Goals as goal

pub loop-link-preserved : goal.loop-link-preserved
loop-link-preserved c =
    sym (looks_outwards c.args.self.now c.loop-link.number c.in-Some.link c.args.key c.link.ensures.chained (sym c.link.ensures.link ∙ c.in-Some.is) (ne_eqb _ _ c.if-link-key.false)) ∙ c.loop-link.invariant
