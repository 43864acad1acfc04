use Rattle.std.proofs.Common.{◌≡◌, ◌++◌}
use Rattle.sml_derive.specs.Tops.{so_many}
use Rattle.sml_derive.proofs.top_trees.note.Given as goal

abbrev pub invariant-loop : goal.invariant-loop
invariant-loop l = l.shown.items ≡ l.fn.shown.items ++ so_many l.counter l.each
