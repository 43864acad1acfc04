use Rattle.std.proofs.Common.{rules}
use Rattle.rv_isa.specs.Word.{signed}
use Rattle.emit_code.proofs.numbers.to_signed.Goals as goal

pub returns-then-n-half : goal.returns-then-n-half
unfolding signed
returns-then-n-half c = search rules

pub returns-else-n-half : goal.returns-else-n-half
unfolding signed
returns-else-n-half c = search rules
