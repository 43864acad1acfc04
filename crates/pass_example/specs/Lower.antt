-- What the pass answers.
use Rattle.std.specs.Prelude.{List, [], ◌∷◌}
use Rattle.pass_example.specs.declared.Op.{Op}
use Rattle.pass_example.specs.declared.Op.TheVariants.{Say, Skip}
use Rattle.pass_example.specs.declared.Instr.{Instr}
use Rattle.pass_example.specs.declared.Instr.TheVariants.{Emit}

abbrev pub lowered : List Op → List Instr
lowered [] = []
lowered (Say n ∷ ops) = Emit n ∷ lowered ops
lowered (Skip ∷ ops) = lowered ops
