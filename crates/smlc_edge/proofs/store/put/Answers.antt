use Rattle.std.proofs.Common.{sym, ◌∙◌, ap, None, Some, Option, rules, length}
use Rattle.smlc_edge.proofs.Places.{entry-none, shown-chosen, shown-at, place-within}
use Rattle.std.specs.Prelude.{option_and_then}
use Rattle.smlc_edge.specs.declared.entry.Entry.{Entry}
use Rattle.smlc_edge.specs.Shelf.{held_by, room_by, suffices}
use Rattle.smlc_edge.proofs.store.put.Goals as goal

pub index_mut-requires : goal.index_mut-requires
index_mut-requires c = let h = place-within c.args.name.now c.args.entries.now.items c.in-Some.at (search rules) in search rules

pub returns-in-Some-clause-done : goal.returns-in-Some-clause-done
returns-in-Some-clause-done c =
    c.save.ensures.done ∙ ap (suffices (length c.args.bytes.now)) (sym (shown-at room_by c.args.name.now c.args.entries.now.items c.in-Some.at c.index_mut.result.now (search rules) c.index_mut.ensures.value))

pub returns-in-Some-clause-files : goal.returns-in-Some-clause-files
returns-in-Some-clause-files c =
    shown-chosen held_by c.args.name.now c.args.entries.now.items c.in-Some.at c.index_mut.result.now c.save.new.self (search rules) c.index_mut.ensures.value c.save.ensures.name c.save.result (Some c.args.bytes.now) c.save.ensures.held

pub returns-in-Some-clause-rooms : goal.returns-in-Some-clause-rooms
returns-in-Some-clause-rooms c =
    shown-chosen room_by c.args.name.now c.args.entries.now.items c.in-Some.at c.index_mut.result.now c.save.new.self (search rules) c.index_mut.ensures.value c.save.ensures.name c.save.result None c.save.ensures.room

pub returns-in-None-clause-done : goal.returns-in-None-clause-done
returns-in-None-clause-done c =
    sym (ap (λ (o : Option Entry). suffices (length c.args.bytes.now) (option_and_then room_by o)) (entry-none c.args.name.now c.args.entries.now.items (search rules)))
