use Rattle.convert_held.proofs.Owned.{labels_are_owned}
use Rattle.convert_held.proofs.labels_are_owned.Goals as goal

pub returns : goal.returns
returns c = labels_are_owned
