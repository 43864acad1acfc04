use Rattle.std.proofs.Common.{◌≡◌, rules}
use Rattle.rv_asm.specs.Item.{words}
use Rattle.emit_items.specs.Making.{full_end}
use Rattle.emit_code.proofs.Rooms.{room_put}
use Rattle.emit_code.proofs.making.put_room.Goals as goal

pub returns : goal.returns
returns c =
    let e : c.put_full_end.new.items.items ≡ full_end c.args.labels.now c.args.offset c.args.size = search rules in
    let w : c.in_ok-words.field-0 ≡ words c.put_full_end.new.items.items = search rules in
    room_put c.args.labels.now c.args.offset c.args.size _ _ c.args.items.now.items _ _ _ _ e w c.in_ok-branch.ensures c.in_ok-put_behind.ensures c.in_ok-push.ensures.items (search rules)
