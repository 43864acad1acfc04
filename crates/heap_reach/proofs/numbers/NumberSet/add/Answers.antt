use Rattle.std.proofs.Common.{◌≡◌, refl, sym, subst}
use Rattle.heap_reach.specs.Numbers.{Numbers, Adds}
use Rattle.heap_reach.proofs.Adding.{adds_one}
use Rattle.heap_reach.proofs.numbers.NumberSet.add.Goals as goal

pub returns-then-not-index-clause-adds : goal.returns-then-not-index-clause-adds
returns-then-not-index-clause-adds c =
    subst (λ (n : Numbers). Adds (λ i. i ≡ c.args.number) c.args.self.now.numbers n.numbers) (sym c.push.ensures) (adds_one (λ i. i ≡ c.args.number) c.args.self.now.numbers c.args.number (λ j e. e) refl)
