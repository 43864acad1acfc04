use Rattle.std.proofs.Common.{sym, ◌∙◌, ap, Some}
use Rattle.smlc_edge.proofs.Places.{shown-set, shown-same, shown-at, changed-like}
use Rattle.smlc_edge.specs.Shelf.{held_by, room_by, room_of, widened}
use Rattle.smlc_edge.proofs.store.MemStore.reserve.Goals as goal

pub returns-clause-files : goal.returns-clause-files
returns-clause-files c = λ other.
    shown-same held_by c.as_bytes.result.now c.place.new.entries.items c.in_ok-at.at c.index_mut.result.now c.widen.new.self c.in_ok-at.ensures.place c.index_mut.ensures.value c.widen.ensures.name c.widen.ensures.held other
    ∙ rw (← c.self.view_is) (c.in_ok-at.ensures.files other)

pub returns-clause-rooms : goal.returns-clause-rooms
returns-clause-rooms c = λ other.
    let had = shown-at room_by c.as_bytes.result.now c.place.new.entries.items c.in_ok-at.at c.index_mut.result.now c.in_ok-at.ensures.place c.index_mut.ensures.value in
    shown-set room_by c.as_bytes.result.now c.place.new.entries.items c.in_ok-at.at c.index_mut.result.now c.widen.new.self c.in_ok-at.ensures.place c.index_mut.ensures.value c.widen.ensures.name other
    ∙ changed-like (room_of c.place.new.entries.items) (room_of c.args.self.now.entries) c.as_bytes.result.now c.args.name.now (room_by c.widen.new.self) _ other
    (rw (← c.self.view_is) (c.in_ok-at.ensures.rooms other)) c.as_bytes.ensures.value
    (c.widen.ensures.room ∙ ap Some (ap (λ m. widened m (room_by c.index_mut.result.now)) c.in_ok-room.ensures
    ∙ ap (widened c.args.bytes) (sym had ∙ rw (← c.self.view_is) (c.in_ok-at.ensures.rooms c.as_bytes.result.now) ∙ ap (room_of c.args.self.now.entries) c.as_bytes.ensures.value)))
