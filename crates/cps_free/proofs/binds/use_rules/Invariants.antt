use Rattle.std.specs.Prelude.{take}
use Rattle.sml_tree.specs.Sets.{row_at}
use Rattle.cps_free.specs.Rows.{rules_free}
use Rattle.cps_free.specs.Same.{AreSame}
use Rattle.cps_free.proofs.binds.use_rules.Given as goal

abbrev pub invariant-loop-rule : goal.invariant-loop-rule
invariant-loop-rule l = AreSame l.set.keys (rules_free (row_at l.frees) (take l.rule-index l.rules) l.fn.set.keys)
