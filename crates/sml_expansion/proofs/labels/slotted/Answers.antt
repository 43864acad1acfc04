use Rattle.std.proofs.Common.{rules, ◌≡◌, sym, ◌∙◌, length}
use Rattle.std.proofs.lemmas.List.{nil_from_length}
use Rattle.sml_expansion.proofs.FieldLemmas.{all_slotted}
use Rattle.sml_expansion.proofs.labels.slotted.Goals as goal

pub returns : goal.returns
returns c =
    let none : length c.loop-lab.lab-iterator.rest.items ≡ 0 = search (rules, c.in-None.ensures.steps) in
    sym (all_slotted c.loop-lab.row c.loop-lab.rest.now c.loop-lab.lab-iterator.rest.items (nil_from_length _ none)) ∙ c.loop-lab.invariant
