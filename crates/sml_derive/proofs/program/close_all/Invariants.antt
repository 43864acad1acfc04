use Rattle.std.proofs.Common.{◌≡◌, ◌≤◌, length, drop}
use Rattle.sml_derive.specs.Steps.{marked}
use Rattle.sml_derive.specs.Tops.{ends}
use Rattle.sml_derive.proofs.program.close_all.Given as goal

abbrev pub invariant-loop-left : goal.invariant-loop-left
invariant-loop-left l = record {
  closed : l.walk ≡ marked (ends (drop l.left l.trees)) l.fn.walk;
  within : l.left ≤ length l.trees;
}

abbrev pub decreases-loop-left : goal.decreases-loop-left
decreases-loop-left l = l.left
