use Rattle.std.proofs.Common.{rules, ◌≡◌, map, arith}
use Rattle.std.specs.Borrow.{Bor}
use Rattle.std.proofs.lemmas.Grind.{common_steps}
use Rattle.std.proofs.lemmas.Fn.{always_returns_same}
use Rattle.sml_tree.specs.declared.bare.Lab.{Lab}
use Rattle.sml_expansion.specs.Labels.{before}
use Rattle.sml_expansion.specs.Types.{labs_of}
use Rattle.sml_expansion.proofs.OrderLemmas.{before_ordered, counts_same}
use Rattle.sml_expansion.proofs.labels.in_order.Goals as goal

pub returns-clause-sorted : goal.returns-clause-sorted
returns-clause-sorted c = c.in_ok-sort_by.ensures.sorted before before_ordered (always_returns_same _ _ _ (λ a r f k. (search rules, search rules)))

pub returns-clause-same : goal.returns-clause-same
returns-clause-same c lab =
    let labels : map (λ (r : Bor Lab). r.now) c.loop-lab.order.items ≡ labs_of c.args.labs.now = grind (arith, common_steps) in
    counts_same lab c.loop-lab.order.items c.sort_by.new.self.items (labs_of c.args.labs.now) c.sort_by.ensures.permutation labels
