use Rattle.std.proofs.Common.{◌≡◌, map, take}
use Rattle.std.specs.Borrow.{Bor}
use Rattle.sml_tree.specs.declared.bare.Lab.{Lab}
use Rattle.sml_expansion.specs.Types.{labs_of}
use Rattle.sml_expansion.proofs.labels.in_order.Given as goal

abbrev pub invariant-loop-lab : goal.invariant-loop-lab
invariant-loop-lab l = map (λ (r : Bor Lab). r.now) l.order.items ≡ labs_of (take l.lab-index l.labs)
