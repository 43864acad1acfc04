use Rattle.label_order.proofs.Labelled.{labelled_in_order}
use Rattle.label_order.proofs.labelled_are_in_order.Goals as goal

pub returns : goal.returns
returns c = labelled_in_order
