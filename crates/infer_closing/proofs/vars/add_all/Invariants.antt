use Rattle.std.proofs.Common.{◌≡◌, ◌++◌, take}
use Rattle.infer_closing.proofs.vars.add_all.Given as goal

abbrev pub invariant-more : goal.invariant-more
invariant-more l = l.vars ≡ l.fn.vars ++ take l.var-index l.more
