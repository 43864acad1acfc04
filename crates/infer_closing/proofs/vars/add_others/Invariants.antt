use Rattle.std.proofs.Common.{◌≡◌, ◌++◌, drop}
use Rattle.infer_closing.specs.Found.{left_of}
use Rattle.infer_closing.proofs.vars.add_others.Given as goal

abbrev pub invariant-more : goal.invariant-more
invariant-more l = l.vars ++ left_of l.these (drop l.var-index l.more) ≡ l.fn.vars ++ left_of l.these l.more
