use Rattle.std.proofs.lemmas.Option.{slice_get_past}
use Rattle.close_labels.proofs.Filling.{none_now}
use Rattle.close_labels.proofs.slots.push_slot.Goals as goal

pub returns-in-None : goal.returns-in-None
returns-in-None c = none_now c.args.functions.now c.args.routines.now c.args.slot c.in-Some.number c.in-Some.is (slice_get_past c.args.functions.now c.in-Some.number c.in-None.ensures.lookup.3)
