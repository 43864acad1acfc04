use Rattle.std.proofs.Common.{rules, ◌≡◌, sym, ◌∙◌, length}
use Rattle.std.proofs.lemmas.List.{nil_from_length}
use Rattle.sml_expansion.proofs.PartLemmas.{all_bindings}
use Rattle.sml_expansion.proofs.parts.rec_bindings_at.Goals as goal

pub returns : goal.returns
returns c =
    let none : length c.loop-binding.binding-iterator.rest.items ≡ 0 = search (rules, c.in-None.ensures.steps) in
    sym (all_bindings c.loop-binding.named c.loop-binding.rest.now c.loop-binding.binding-iterator.rest.items (nil_from_length _ none)) ∙ c.loop-binding.invariant
