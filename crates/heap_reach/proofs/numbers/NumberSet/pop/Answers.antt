use Rattle.std.proofs.Common.{rules, ◌<◌, length, sym, subst}
use Rattle.heap_reach.specs.Numbers.{Numbers}
use Rattle.heap_reach.proofs.Sets.{kept_pop}
use Rattle.heap_reach.proofs.numbers.NumberSet.pop.Goals as goal

pub index_mut-requires : goal.index_mut-requires
index_mut-requires c =
    let some = subst (λ (n : Numbers). 0 < length n.numbers) (sym c.self.view_is) c.requires in
    let below : c.index.result.now < length c.self.inside.marks.items = (kept_pop _ _ _ _ some c.index.ensures c.self.invariant).0 in
    search rules

pub invariant_of-self : goal.invariant_of-self
invariant_of-self c =
    let some = subst (λ (n : Numbers). 0 < length n.numbers) (sym c.self.view_is) c.requires in
    (kept_pop _ _ _ _ some c.index.ensures c.self.invariant).1
