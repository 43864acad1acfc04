use Rattle.emit_sound.proofs.Bodies.{function_sound}
use Rattle.emit_sound.proofs.code_is_sound.Goals as goal

pub returns : goal.returns
returns c = function_sound
