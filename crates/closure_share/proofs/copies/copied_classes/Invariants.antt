use Rattle.std.proofs.Common.{◌≡◌, take}
use Rattle.closure_share.proofs.copies.copied_classes.Given as goal

abbrev pub invariant-loop-class : goal.invariant-loop-class
invariant-loop-class l = l.copies ≡ take l.class-index l.class-items
