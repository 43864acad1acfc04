use Rattle.std.proofs.Common.{ℕ, ◌+◌, ◌*◌, ◌/◌, ap, ◌∙◌, rules}
use Rattle.print_code.proofs.Images.{image_is}
use Rattle.print_code.proofs.code.build.Goals as goal

pub returns : goal.returns
returns c =
    c.in_ok-image.ensures ∙ image_is c.args.printed.lengths.items c.args.printed.text.items c.in_ok-code.code.items c.data_address-base.result (c.data_address-base.result + c.len.result)
    c.segment-text.result c.segment-read_only.result c.writable.result
    (rw c.deref.ensures.value at c.in_ok-code.ensures)
    (c.data_address-base.ensures.value ∙ ap (λ (n : ℕ). 65536 + (n * 32 + 16 + 4095) / 4096 * 4096) c.count.ensures.value)
    (ap (λ (n : ℕ). c.data_address-base.result + n) (search rules)) c.segment-text.ensures c.segment-read_only.ensures c.writable.ensures
