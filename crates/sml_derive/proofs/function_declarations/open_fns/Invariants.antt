use Rattle.std.proofs.Common.{◌≡◌, drop}
use Rattle.sml_derive.proofs.FunctionLemmas.{fns_written}
use Rattle.sml_derive.proofs.function_declarations.open_fns.Given as goal

abbrev pub invariant-loop-name : goal.invariant-loop-name
invariant-loop-name l = fns_written l.place (drop l.name-index l.names) l.walk ≡ fns_written l.place l.names l.fn.walk
