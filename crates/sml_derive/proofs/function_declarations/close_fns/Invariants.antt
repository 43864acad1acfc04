use Rattle.std.proofs.Common.{◌≡◌}
use Rattle.sml_derive.specs.Steps.{marked}
use Rattle.sml_derive.specs.Forms.{times}
use Rattle.sml_derive.specs.FunctionDeclarations.{fn_end}
use Rattle.sml_derive.proofs.function_declarations.close_fns.Given as goal

abbrev pub invariant-loop : goal.invariant-loop
invariant-loop l = l.walk ≡ marked (times l.counter (fn_end l.place)) l.fn.walk
