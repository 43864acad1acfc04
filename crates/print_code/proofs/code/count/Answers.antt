use Rattle.std.proofs.Common.{arith}
use Rattle.print_code.proofs.Ends.{pieces-total}
use Rattle.print_code.proofs.code.count.Goals as goal

pub overflow_cast-result : goal.overflow_cast-result
overflow_cast-result c = omega (arith, pieces-total c.args.printed.now.lengths.items c.requires.positive, c.requires.sums, c.requires.bounded)

pub returns-clause-few : goal.returns-clause-few
returns-clause-few c = omega (arith, pieces-total c.args.printed.now.lengths.items c.requires.positive, c.requires.sums, c.requires.bounded)
