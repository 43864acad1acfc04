use Rattle.rv_machine.proofs.Text.{bytes-step_of}
use Rattle.rv_machine.proofs.laws.bytes_stay_bytes.Goals as goal

pub returns : goal.returns
returns c = bytes-step_of
