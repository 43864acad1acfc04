use Rattle.std.specs.Prelude.{take, ◌++◌}
use Rattle.sml_tree.specs.Sets.{row_at}
use Rattle.closed_live.specs.Rows.{rules_live}
use Rattle.closed_live.specs.Same.{AreSame}
use Rattle.closed_live.proofs.binds.use_rules.Given as goal

abbrev pub invariant-loop-rule : goal.invariant-loop-rule
invariant-loop-rule l = AreSame l.set.keys (rules_live (row_at l.lives) l.subject (take l.rule-index l.rules) ++ l.fn.set.keys)
