use Rattle.std.proofs.Common.{refl, ◌∙◌, ap, Some, rules}
use Rattle.smlc_edge.proofs.Places.{shown-set, shown-same, changed-like}
use Rattle.smlc_edge.specs.Shelf.{held_by, room_by, file_of}
use Rattle.smlc_edge.proofs.store.MemStore.add.Goals as goal

pub returns-clause-files : goal.returns-clause-files
returns-clause-files c = λ other.
    shown-set held_by c.as_bytes.result.now c.place.new.entries.items c.in_ok-at.at c.index_mut.result.now _ c.in_ok-at.ensures.place c.index_mut.ensures.value refl other
    ∙ changed-like (file_of c.place.new.entries.items) (file_of c.args.self.now.entries) c.as_bytes.result.now c.args.name.now (Some c.in_ok-bytes.bytes.items) (Some c.args.bytes.now) other
    (rw (← c.self.view_is) (c.in_ok-at.ensures.files other)) c.as_bytes.ensures.value (ap Some (search rules))

pub returns-clause-rooms : goal.returns-clause-rooms
returns-clause-rooms c = λ other.
    shown-same room_by c.as_bytes.result.now c.place.new.entries.items c.in_ok-at.at c.index_mut.result.now _ c.in_ok-at.ensures.place c.index_mut.ensures.value refl refl other
    ∙ rw (← c.self.view_is) (c.in_ok-at.ensures.rooms other)
