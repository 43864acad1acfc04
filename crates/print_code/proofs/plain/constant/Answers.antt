use Rattle.std.proofs.Common.{◌≡◌, Some, true, length, refl, sym}
use Rattle.std.specs.Prelude.{slice_get}
use Rattle.std.proofs.lemmas.Option.{slice_get_read}
use Rattle.print_code.specs.Reading.{is_wild, is_print}
use Rattle.print_code.proofs.Walks.{print_of}
use Rattle.print_code.proofs.plain.constant.Goals as goal

pub returns : goal.returns
returns c =
    let ignores : is_wild (slice_get c.items-nodes.result.now c.in_ok-binding.binding.pat) ≡ true = cc in
    let prints : is_print (slice_get c.items-nodes.result.now c.in_ok-parts.parts.first) ≡ true = cc in
    let k = rw c.items.ensures at c.in_ok-text.ensures.lookup in
    let there : slice_get c.args.bare.now.texts c.in_ok-number.number ≡ Some c.in_ok-text.text.now = slice_get_read c.args.bare.now.texts (length c.args.bare.now.texts) c.in_ok-number.number c.in_ok-text.text.now refl k.3.0 k.1 in
    let spelled : slice_get c.args.bare.now.texts c.in_ok-number.number ≡ Some c.items-2.result.now = rw c.items-2.ensures there in
    print_of c.args.bare.now c.items-nodes.result.now c.args.at c.in_ok-binding.binding c.in_ok-parts.parts c.in_ok-number.number c.items-2.result.now c.items-nodes.ensures
    (sym c.in_ok-binding.ensures) (sym c.in_ok-parts.ensures) (sym c.in_ok-number.ensures) ignores prints spelled
