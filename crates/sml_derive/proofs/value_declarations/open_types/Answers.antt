use Rattle.std.proofs.Common.{[], ◌∷◌}
use Rattle.sml_expansion.specs.declared.mark.Mark.TheVariants.{Open}
use Rattle.sml_derive.proofs.Times.{once_more}
use Rattle.sml_derive.proofs.value_declarations.open_types.Goals as goal

pub loop-preserved : goal.loop-preserved
loop-preserved c = once_more c.args.walk.now c.loop.walk c.open.new.self c.loop.index (Open ∷ []) c.loop.invariant c.in_ok-open.ensures
