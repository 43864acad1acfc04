use Rattle.closure_ir.proofs.Orderly.{orderly_named}
use Rattle.place_laws.proofs.Keeps.{placed_keeps}
use Rattle.place_laws.proofs.placing_keeps.Goals as goal

pub returns : goal.returns
returns c p input few orderly = placed_keeps p few input (orderly_named p orderly input)
