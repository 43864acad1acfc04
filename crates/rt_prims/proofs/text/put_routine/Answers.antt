use Rattle.std.proofs.Common.{subst, sym}
use Rattle.std.specs.List.{All}
use Rattle.rt_prims.specs.Lines.{FitsLine}
use Rattle.rt_prims.proofs.Fitting.{routine_fits}
use Rattle.rt_prims.proofs.text.put_routine.Goals as goal

pub put_lines-requires-clause-fit : goal.put_lines-requires-clause-fit
put_lines-requires-clause-fit c = subst (All FitsLine) (sym c.lines_of.ensures) (routine_fits _)
