use Rattle.std.proofs.Common.{arith}
use Rattle.std.proofs.lemmas.Grind.{common_steps}
use Rattle.std.proofs.lemmas.List.{take_all}
use Rattle.std.proofs.lemmas.List.Elements.{All-more}
use Rattle.std.specs.Prelude.{All}
use Rattle.std.proofs.Common.{subst}
use Rattle.elf_static.specs.Writing.{RowFits}
use Rattle.elf_static.proofs.writing.put_rows.Goals as goal

pub loop-row-preserved : goal.loop-row-preserved
loop-row-preserved c = record {
  bytes = grind (arith, common_steps);
  fit = All-more RowFits c.args.rows.now c.loop-row.row-index _ c.loop-row-test.true c.loop-row.invariant.fit c.in_ok-put_row.ensures.fits;
}

pub returns-clause-fit : goal.returns-clause-fit
returns-clause-fit c = subst (All RowFits) (take_all c.loop-row.row-index c.args.rows.now c.loop-row-test.false) c.loop-row.invariant.fit
