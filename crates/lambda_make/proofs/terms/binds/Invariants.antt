use Rattle.std.proofs.Common.{◌≡◌, ◌++◌, map, drop}
use Rattle.match_laws.specs.Compile.{bind_of}
use Rattle.lambda_make.proofs.terms.binds.Given as goal

abbrev pub invariant-loop-binding : goal.invariant-loop-binding
invariant-loop-binding l =
    l.found ++ map (bind_of l.tables.names l.nodes) (drop l.binding-index l.bindings) ≡ map (bind_of l.tables.names l.nodes) l.bindings
