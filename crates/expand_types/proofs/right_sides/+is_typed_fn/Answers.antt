use Rattle.std.proofs.Common.{sym}
use Rattle.expand_types.proofs.VariableLemmas.{in_no_fn}
use Rattle.expand_types.proofs.right_sides.+is_typed_fn.Goals as goal

pub returns-in_default : goal.returns-in_default
returns-in_default t c u w = sym (in_no_fn c.args.parsed.now c.args.at c.node.result u w c.node.ensures c.in_default.not-Fn c.in_default.not-Paren c.in_default.not-Typed)
