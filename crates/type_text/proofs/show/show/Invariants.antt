use Rattle.std.proofs.Common.{◌≡◌}
use Rattle.sml_types.specs.Forms.{tree}
use Rattle.type_text.specs.declared.level.Level.TheVariants.{Function}
use Rattle.type_text.specs.Text.{type_text}
use Rattle.type_text.specs.Tasks.{tasks_text, tasks_weight}
use Rattle.type_text.specs.States.{with_items}
use Rattle.type_text.proofs.show.show.Given as goal

abbrev pub invariant-pieces : goal.invariant-pieces
invariant-pieces l = with_items l.written (tasks_text l.forms l.type_names l.work) ≡ with_items l.fn.written (type_text l.type_names (tree l.forms l.fn.ty.0) Function)

abbrev pub decreases-pieces : goal.decreases-pieces
decreases-pieces l = tasks_weight l.forms l.work
