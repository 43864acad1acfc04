use Rattle.closure_ir.proofs.Orderly.{orderly_named}
use Rattle.closure_ir.proofs.records_are_named.Goals as goal

pub returns : goal.returns
returns c p input o = orderly_named p o input
