use Rattle.std.proofs.Common.{◌≡◌, ◌++◌, drop}
use Rattle.convert_pieces.specs.Names.{group_names}
use Rattle.convert_pieces.proofs.scope.group_names.Given as goal

abbrev pub invariant-loop-binding : goal.invariant-loop-binding
invariant-loop-binding l = l.names ++ group_names (drop l.binding-index l.bindings) l.variable ≡ group_names l.bindings l.first
