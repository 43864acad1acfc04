use Rattle.std.proofs.Common.{◌≡◌, ℕ, ◌+◌, ◌-◌, length, get_or, ap, arith}
use Rattle.emit_text.specs.Labels.{routines_label}
use Rattle.emit_data.proofs.Bytes.{blocks_are}
use Rattle.emit_data.proofs.blocks.read_only.Goals as goal

pub returns : goal.returns
returns c =
    let p = c.args.placed.now in
    let at : ℕ → ℕ = λ l. get_or c.args.at.now l 0 in
    let count : c.args.labels.now.texts - 1 ≡ length p.functions = omega (arith, ap (λ x. x.texts) c.requires.labels) in
    let handler : c.args.labels.now.routines + c.number.result ≡ routines_label p + 2 = omega (arith, ap (λ x. x.routines) c.requires.labels, c.number.ensures.is) in
    blocks_are p at c.new-bytes.result.items c.put_strings.new.bytes.items c.put_strings-2.new.bytes.items c.put_names.new.bytes.items c.put_closures.new.bytes.items c.put_code.new.bytes.items c.put_string.new.bytes.items c.put_string-2.new.bytes.items
    c.texts.result.now c.exns.result.now c.args.labels.now.names (c.args.labels.now.texts - 1) _ c.texts.ensures c.exns.ensures (ap (λ x. x.names) c.requires.labels) count (ap at handler) c.new-bytes.ensures.items
    c.in_ok-put_strings.ensures c.in_ok-put_strings-2.ensures c.in_ok-put_names.ensures c.in_ok-put_closures.ensures c.in_ok-put_code.ensures c.in_ok-put_string.ensures c.in_ok-put_string-2.ensures
