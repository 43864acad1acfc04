use Rattle.std.proofs.Common.{◌++◌, ℕ, List, drop}
use Rattle.sml_expansion.specs.declared.made.Made.{Made}
use Rattle.sml_expansion.specs.Makings.{Runs}
use Rattle.sml_expansion.specs.TypeVariables.{new_tyvars}
use Rattle.expand_types.proofs.type_variables.new_tyvars.Given as goal

abbrev pub invariant-loop-key : goal.invariant-loop-key
invariant-loop-key l = (x : List (ℕ × ℕ)) (n : Made) → Runs (new_tyvars l.parsed.names (drop l.key-index l.keys)) l.made x n → Runs (new_tyvars l.parsed.names l.keys) l.fn.made (l.vars.items ++ x) n
