use Rattle.std.proofs.Common.{sym, ◌∙◌, subst}
use Rattle.convert_scopes.specs.Scopes.{Chain}
use Rattle.convert_scopes.proofs.Chains.{chain_up}
use Rattle.convert_scopes.proofs.scopes.Scopes.descend.Goals as goal

pub enter-requires : goal.enter-requires
enter-requires c =
    (chain_up c.loop-next.self.bounds c.args.scope c.pop.new.self.items c.in-Some.next c.loop-next.self.present (subst (λ es. Chain c.loop-next.self.bounds c.args.scope es c.loop-next.self.present) c.in-Some.ensures.items c.loop-next.invariant.chain)).1

pub loop-next-preserved : goal.loop-next-preserved
loop-next-preserved c =
    let up = chain_up c.loop-next.self.bounds c.args.scope c.pop.new.self.items c.in-Some.next c.loop-next.self.present (subst (λ es. Chain c.loop-next.self.bounds c.args.scope es c.loop-next.self.present) c.in-Some.ensures.items c.loop-next.invariant.chain) in
    record {
      bounds = c.enter.ensures.bounds ∙ c.loop-next.invariant.bounds;
      chain =
          subst
          (λ bs. Chain bs c.args.scope c.pop.new.self.items c.enter.new.self.present)
          (sym c.enter.ensures.bounds)
          (subst (λ p. Chain c.loop-next.self.bounds c.args.scope c.pop.new.self.items p) (sym c.enter.ensures.present) up.0);
    }
