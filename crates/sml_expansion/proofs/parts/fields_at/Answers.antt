use Rattle.std.proofs.Common.{rules, ◌≡◌, sym, ◌∙◌, length}
use Rattle.std.proofs.lemmas.List.{nil_from_length}
use Rattle.sml_expansion.proofs.PartLemmas.{all_fields}
use Rattle.sml_expansion.proofs.parts.fields_at.Goals as goal

pub returns : goal.returns
returns c =
    let none : length c.loop-field.field-iterator.rest.items ≡ 0 = search (rules, c.in-None.ensures.steps) in
    sym (all_fields c.loop-field.named c.loop-field.rest.now c.loop-field.field-iterator.rest.items (nil_from_length _ none)) ∙ c.loop-field.invariant
