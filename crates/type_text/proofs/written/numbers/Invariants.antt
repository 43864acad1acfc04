use Rattle.std.proofs.Common.{◌≡◌, map, take}
use Rattle.type_text.specs.Text.{in_order}
use Rattle.type_text.proofs.written.numbers.Given as goal

abbrev pub invariant-vars : goal.invariant-vars
invariant-vars l = l.set.keys ≡ in_order (map (λ v. v.num) (take l.var-index l.vars))
