use Rattle.std.proofs.Common.{◌≡◌, drop}
use Rattle.sml_derive.proofs.FunctionLemmas.{variables_written}
use Rattle.sml_derive.proofs.function_declarations.variables.Given as goal

abbrev pub invariant-loop-name : goal.invariant-loop-name
invariant-loop-name l = (variables_written l.place (drop l.name-index l.names) l.walk ≡ variables_written l.place l.names l.fn.walk) × (l.trees ≡ l.name-index)
