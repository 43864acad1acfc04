use Rattle.print_code.proofs.Loadable.{image_laid_out}
use Rattle.print_code.proofs.Ends.{straight_prints}
use Rattle.print_code.proofs.code.make.Goals as goal

pub returns-clause-laid_out : goal.returns-clause-laid_out
returns-clause-laid_out c = rw c.in_ok-image.ensures (image_laid_out c.args.printed.lengths.items c.args.printed.text.items c.requires)

pub returns-clause-prints : goal.returns-clause-prints
returns-clause-prints c = rw c.in_ok-image.ensures (straight_prints c.args.printed.lengths.items c.args.printed.text.items c.requires)
