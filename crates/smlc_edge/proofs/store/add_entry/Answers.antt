use Rattle.std.proofs.Common.{◌∙◌, ap, Some, rules}
use Rattle.std.specs.Option.{option_map}
use Rattle.smlc_edge.proofs.Places.{place-push, shown-push}
use Rattle.smlc_edge.specs.declared.entry.Room.{Room}
use Rattle.smlc_edge.specs.Shelf.{held_by, room_by}
use Rattle.smlc_edge.proofs.store.add_entry.Goals as goal

pub returns-clause-place : goal.returns-clause-place
returns-clause-place c = rw c.in_ok-push.ensures.items (place-push c.args.name.now c.args.entries.now.items c.in_ok-entry.entry c.in_ok-entry.ensures.0 c.requires ∙ ap Some (search rules))

pub returns-clause-files : goal.returns-clause-files
returns-clause-files c = rw c.in_ok-push.ensures.items (shown-push held_by c.args.entries.now.items c.in_ok-entry.entry (ap (option_map (λ bytes. bytes.items)) c.in_ok-entry.ensures.1))

pub returns-clause-rooms : goal.returns-clause-rooms
returns-clause-rooms c = rw c.in_ok-push.ensures.items (shown-push room_by c.args.entries.now.items c.in_ok-entry.entry (ap (option_map (λ (room : Room). room.most)) c.in_ok-entry.ensures.2))
