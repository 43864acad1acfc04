use Rattle.contract_frame.proofs.Frame.{same_walk}
use Rattle.contract_frame.proofs.unused_is_no_matter.Goals as goal

pub returns : goal.returns
returns c texts X Y body K L less = same_walk X Y less texts body K L
