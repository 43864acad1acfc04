use Rattle.std.proofs.Common.{◌≡◌, drop}
use Rattle.infer_closing.specs.Found.{with_vars}
use Rattle.infer_closing.proofs.vars.add_once.Given as goal

abbrev pub invariant-more : goal.invariant-more
invariant-more l = with_vars (drop l.var-index l.more) l.vars ≡ with_vars l.more l.fn.vars
