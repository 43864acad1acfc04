use Rattle.std.proofs.Common.{◌≡◌, ◌++◌, reverse}
use Rattle.std.specs.Prelude.{flat_map}
use Rattle.infer_state.specs.Names.{names_bound}
use Rattle.infer_scopes.proofs.bound.pattern_names.Given as goal

abbrev pub invariant-turns : goal.invariant-turns
invariant-turns l = l.found.items ++ flat_map (names_bound l.nodes) (reverse l.work.items) ≡ names_bound l.nodes l.node
