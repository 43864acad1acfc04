use Rattle.std.proofs.Common.{rules, ◌<◌, ◌++◌, ◌∷◌, [], length, sym, ap, ◌∙◌, subst}
use Rattle.simulation.specs.Blocks.{IsAmong}
use Rattle.heap_reach.specs.Numbers.{Numbers}
use Rattle.heap_reach.proofs.Sets.{has_room, kept_more, more_shown}
use Rattle.heap_reach.proofs.numbers.NumberSet.push.Goals as goal

pub index_mut-requires-2 : goal.index_mut-requires-2
index_mut-requires-2 c =
    let below = subst (λ (n : Numbers). c.args.number < n.room) (sym c.self.view_is) c.requires.below in
    let new = subst (λ (n : Numbers). IsAmong c.args.number n.numbers → ⊥) (sym c.self.view_is) c.requires.new in
    let room : c.self.inside.count < length c.self.inside.list.items = has_room _ _ _ c.args.number c.self.invariant below new in
    search rules

pub invariant_of-self : goal.invariant_of-self
invariant_of-self c =
    let below = subst (λ (n : Numbers). c.args.number < n.room) (sym c.self.view_is) c.requires.below in
    let new = subst (λ (n : Numbers). IsAmong c.args.number n.numbers → ⊥) (sym c.self.view_is) c.requires.new in
    kept_more _ _ _ c.args.number c.self.invariant below new

pub returns : goal.returns
returns c =
    let below = subst (λ (n : Numbers). c.args.number < n.room) (sym c.self.view_is) c.requires.below in
    let new = subst (λ (n : Numbers). IsAmong c.args.number n.numbers → ⊥) (sym c.self.view_is) c.requires.new in
    more_shown _ _ _ c.args.number (has_room _ _ _ c.args.number c.self.invariant below new)
    ∙ ap (λ (n : Numbers). record { room = n.room; numbers = n.numbers ++ c.args.number ∷ [] }) c.self.view_is
