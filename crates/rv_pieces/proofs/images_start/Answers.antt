use Rattle.rv_pieces.proofs.Starting.{image_starts}
use Rattle.rv_pieces.proofs.images_start.Goals as goal

pub returns : goal.returns
returns c image laid code h input cuts = image_starts image laid code h input cuts
