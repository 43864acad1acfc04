use Rattle.std.proofs.Common.{Some, ap, ◌∙◌}
use Rattle.std.specs.Prelude.{slice_get}
use Rattle.sml_unify.proofs.Counters.{set_other}
use Rattle.sml_unify.proofs.bind.bind.Goals as goal

pub returns-clause-others : goal.returns-clause-others
returns-clause-others c i l n =
    ap (λ D. slice_get D i) c.set.ensures ∙ set_other c.loop-bound.bound c.args.num (Some c.args.ty) i n ∙ c.loop-bound.invariant.prefix i l
