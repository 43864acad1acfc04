use Rattle.std.proofs.Common.{arith, ap, ◌+◌}
use Rattle.rv_asm.proofs.Growing.{words_below, whole_pushed}
use Rattle.rv_asm.proofs.asm.Asm.push.Goals as goal

pub overflow_add-self : goal.overflow_add-self
overflow_add-self c = omega (arith, words_below c.self.inside.items.items c.args.item c.push.new.self.items c.in_ok-push.ensures.items)

pub invariant_of-self-2 : goal.invariant_of-self-2
invariant_of-self-2 c = whole_pushed c.self.inside.items.items c.self.inside.places.items c.self.inside.words c.args.item c.push.new.self.items (c.self.inside.words + c.size.result) c.in_ok-push.ensures.items c.self.invariant (rw (← c.self.view_is) at c.requires) (ap (λ n. c.self.inside.words + n) c.size.ensures)
