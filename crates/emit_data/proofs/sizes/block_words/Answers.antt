use Rattle.emit_data.proofs.Bytes.{sizes_are}
use Rattle.emit_data.proofs.sizes.block_words.Goals as goal

pub returns : goal.returns
returns c =
    sizes_are c.args.placed.now c.new-sizes.result.items c.push_strings.new.sizes.items c.push_strings-2.new.sizes.items c.push_names.new.sizes.items c.push_functions.new.sizes.items c.push.new.self.items
    c.texts.result.now c.exns.result.now c.functions.result.now c.texts.ensures c.exns.ensures c.functions.ensures c.new-sizes.ensures.items
    c.in_ok-push_strings.ensures c.in_ok-push_strings-2.ensures c.in_ok-push_names.ensures c.in_ok-push_functions.ensures c.in_ok-push.ensures.items
